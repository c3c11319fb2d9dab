-- `put_choice` meets its clause `plain` and keeps what holds in each turn of its loop, by the lemmas of Rows and Texts.
use Rattle.std.proofs.Common.{◌≡◌, ◌+◌, ◌≤◌, ◌∷◌, ℕ, List, length, drop, arith, sym, ap, ◌∙◌, subst}
use Rattle.std.specs.List.{AllByRecursion}
use Rattle.std.proofs.lemmas.List.{drop_more, drop_all}
use Rattle.mps_base.specs.Spaced.{spaced}
use Rattle.mps_base.specs.Texts.{IsPlainByte}
use Rattle.mps_show.proofs.Rows.{spaced_words, words_begin, word_more, all-append}
use Rattle.mps_show.proofs.Texts.{name_is_plain, in_front, one_behind}
use Rattle.mps_show.specs.Private.Rows.{words_behind}
use Rattle.mps_show.proofs.text_heads.put_choice.Goals as goal

pub loop-label-init : goal.loop-label-init
loop-label-init c = record {
  text = words_begin c.args.out.now.items c.args.word.now c.args.peer.now c.extend_from_slice.new.self.items c.put_behind.new.out.items c.as_bytes.result.now c.args.labels.now c.in_ok-extend_from_slice.ensures.items c.in_ok-put_behind.ensures c.as_bytes.ensures.bytes;
  plain = λ h. h;
}

pub loop-label-preserved : goal.loop-label-preserved
loop-label-preserved c =
    let labels = c.args.labels.now in
    let i = c.loop-label.label-index in
    let label = c.label-item.result in
    let rest = drop (i + 1) labels in
    let split : drop i labels ≡ label ∷ rest = drop_more labels i label c.loop-label-test.true ∙ ap (λ (x : List ℕ). x ∷ rest) (sym c.label-item.is) in
    record {
      text = word_more c.loop-label.out.items c.put_behind-in-loop-label.new.out.items c.as_bytes-in-loop-label.result.now label _ (drop i labels) rest c.in_ok-put_behind-2.ensures c.as_bytes-in-loop-label.ensures.bytes split c.loop-label.invariant.text;
      plain = λ h. c.loop-label.invariant.plain (subst (λ (l : List (List ℕ)). AllByRecursion IsPlainByte (words_behind l)) (sym split) (one_behind label (words_behind rest) c.as_bytes-in-loop-label.ensures.name h));
    }

pub returns-clause-plain : goal.returns-clause-plain
returns-clause-plain c =
    let labels = c.args.labels.now in
    let peer = c.args.peer.now in
    let i = c.loop-label.label-index in
    let over : length labels ≤ i = omega (arith, c.loop-label-test.false) in
    let behind = c.loop-label.invariant.plain (subst (λ (l : List (List ℕ)). AllByRecursion IsPlainByte (words_behind l)) (sym (drop_all i labels over)) tt) in
    in_front c.args.word.now (spaced (peer ∷ labels)) c.requires
    (subst (λ (l : List ℕ). AllByRecursion IsPlainByte l) (sym (spaced_words peer labels)) (all-append IsPlainByte peer (words_behind labels) (name_is_plain peer c.as_bytes.ensures.name) behind))
