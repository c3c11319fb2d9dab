-- `Journal::push` meets its contract, and keeps the invariant of its type, by the lemmas of Forms.
use Rattle.std.proofs.Common.{◌++◌, ◌∷◌, [], ◌≤◌, ◌+◌, ℕ, List, length, map, ap, ◌∙◌, sym, subst, arith, length-append}
use Rattle.std.proofs.lemmas.List.{length-map}
use Rattle.mps_room.specs.Private.Forms.{lists_of, word_of, AreForms, HasWord, HasList}
use Rattle.mps_room.specs.declared.form.Form.{Form}
use Rattle.mps_room.proofs.Forms as forms
use Rattle.mps_room.proofs.journal.Journal.push.Goals as goal

pub invariant_of-self : goal.invariant_of-self
invariant_of-self c =
    let j = c.self.inside in
    let told = c.form_of-form in
    let lists = map (λ l. l.items) j.lists.items in
    let words = told.ensures.words in
    let listed = told.ensures.lists in
    let is =
    forms.joined j.forms.items j.words.items lists c.self.invariant told.result (word_of c.args.command.now) (lists_of c.args.gist)
    (subst (λ (w : List ℕ). HasWord w told.result) words told.ensures.word)
    (subst (λ (n : ℕ). HasList n told.result) (sym (length-map told.new.lists.items (λ l. l.items)) ∙ ap length listed) told.ensures.list)
    (subst (λ (w : List ℕ). length w ≤ length j.words.items + 256) words told.ensures.short)
    (omega (arith, length-append lists (lists_of c.args.gist), forms.few_lists_of c.args.gist))
    in
    subst (λ (f : List Form). AreForms f told.new.words.items (map (λ l. l.items) told.new.lists.items)) (sym c.push_reserved.ensures.items)
    (subst (λ (w : List ℕ). AreForms (j.forms.items ++ told.result ∷ []) w (map (λ l. l.items) told.new.lists.items)) (sym words)
    (subst (λ (l : List (List ℕ)). AreForms (j.forms.items ++ told.result ∷ []) (j.words.items ++ word_of c.args.command.now) l) (sym listed) is))

pub returns : goal.returns
returns c =
    let j = c.self.inside in
    let told = c.form_of-form in
    let lists = map (λ l. l.items) j.lists.items in
    grind (
      arith,
      c.push_reserved.ensures.items,
      told.ensures.words,
      told.ensures.lists,
      told.ensures.form,
      c.self.view_is,
      forms.joined_entries j.forms.items j.words.items lists c.self.invariant told.result (word_of c.args.command.now) (lists_of c.args.gist),
    )
