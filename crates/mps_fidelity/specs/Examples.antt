-- Worked sessions of worked protocols, as theirs were worked out by hand, and sessions of types that are of no
-- protocol.
use Rattle.std.specs.Prelude.{◌≡◌, true, List, [], ◌∷◌, None, codes}
use Rattle.mps_base.specs.declared.value.Value.TheVariants.{Bool as Truth}
use Rattle.mps_base.specs.declared.value.Sort.TheVariants.{Int as IntSort, Bool as BoolSort}
use Rattle.mps_command.specs.declared.answer.Answer.TheVariants.{Undone}
use Rattle.mps_command.specs.declared.answer.Violation.TheVariants.{WrongAct, WrongPeer, NothingQueued, Mismatch}
use Rattle.mps_command.specs.declared.command.Forward.TheVariants as steps
use Rattle.mps_command.specs.declared.command.Change.TheVariants.{Forward}
use Rattle.mps_global.specs.Global as global
use Rattle.mps_global.specs.Global.{GlobalType}
use Rattle.mps_global.specs.Faults.{fault_of}
use Rattle.mps_local.specs.Examples as protocols
use Rattle.mps_local.specs.Examples.{three, chosen, told, int_to, bool_to, in_loops, outer, relay, loops, turns}
use Rattle.mps_local.specs.Local.{LocalType, Branches, End, Var, Rec, Send, Recv, Select, Branch, NoMore, More}
use Rattle.mps_local.specs.Outcome.{AreProjections}
use Rattle.mps_local.specs.declared.merging.Merging.{Merging}
use Rattle.mps_machine.specs.Examples.{a, b, c, verdict, unfitting, sends_int, sends_true, receives_into, chooses, picks}
use Rattle.mps_machine.specs.Examples.{rolls_back, done, done_with, done_label, violates, relayed_then, relay_done_then}
use Rattle.mps_machine.specs.Machine.{Request, initial, view_of, answers, after}
use Rattle.mps_machine.specs.View.{View}
use Rattle.mps_fidelity.specs.Duality.{AreDual}
use Rattle.mps_fidelity.specs.Fidelity.{IsFaithful, IsHalfDuplex}

-- the tree has no fault, and these are what the three roles do in it by that kind of merging
abbrev pub DoInIt : Merging → GlobalType → List LocalType → Type 0
DoInIt merging tree types = (fault_of three tree ≡ None) × AreProjections merging three tree types

-- what is held after requests
abbrev pub view_reached : List LocalType → List Request → View
view_reached types requests = view_of types (after types initial requests).history

-- a loop in a loop: a is ahead of b, who takes part in the inner one, and of c, who does in the outer one
abbrev pub loop_types : List LocalType
loop_types =
    turns
    ∷ Rec (codes "X") (Rec (codes "Y") (Recv a IntSort (Var (codes "X"))))
    ∷ Rec (codes "X") (Recv a IntSort (Rec (codes "Y") (Var (codes "X"))))
    ∷ []

-- a choice in a loop, in whose branches the third role does the same
abbrev pub merging : GlobalType
merging = in_loops (chosen (int_to protocols.a protocols.c outer) (int_to protocols.a protocols.c outer))

abbrev pub left_or_right : LocalType → LocalType → Branches
left_or_right left right = More (codes "l") left (More (codes "r") right NoMore)

abbrev pub merging_types : List LocalType
merging_types =
    Rec (codes "X") (Rec (codes "Y")
    (Select b (left_or_right (Send c IntSort (Var (codes "X"))) (Send c IntSort (Var (codes "X"))))))
    ∷ Rec (codes "X") (Rec (codes "Y") (Branch a (left_or_right (Var (codes "X")) (Var (codes "X")))))
    ∷ Rec (codes "X") (Rec (codes "Y") (Recv a IntSort (Var (codes "X"))))
    ∷ []

-- a loop that the third role takes no part in: it has ended, though the branches of the loop differ
abbrev pub aside : GlobalType
aside = global.Rec (codes "X") (chosen outer global.End)

abbrev pub aside_types : List LocalType
aside_types =
    Rec (codes "X") (Select b (left_or_right (Var (codes "X")) End))
    ∷ Rec (codes "X") (Branch a (left_or_right (Var (codes "X")) End))
    ∷ End
    ∷ []

-- a loop that three roles leave together, by full merging: c hears from a whether there is another round
abbrev pub round_types : List LocalType
round_types =
    Rec (codes "X") (Select b (left_or_right
    (Select c (More (codes "more") (Recv c IntSort (Var (codes "X"))) NoMore))
    (Select c (More (codes "stop") End NoMore))))
    ∷ Rec (codes "X") (Branch a (left_or_right (Var (codes "X")) End))
    ∷ Rec (codes "X") (Branch a (More (codes "more") (Send a IntSort (Var (codes "X"))) (More (codes "stop") End NoMore)))
    ∷ []

-- two branches that c begins alike, before it hears from a, after a value, which one it is; in the second it then tells b
abbrev pub heard_late : GlobalType
heard_late =
    chosen
    (int_to protocols.c protocols.a (int_to protocols.a protocols.c (told protocols.a protocols.c (codes "x") global.End)))
    (int_to protocols.c protocols.a (int_to protocols.a protocols.c
    (told protocols.a protocols.c (codes "y") (bool_to protocols.c protocols.b global.End))))

abbrev pub heard_late_types : List LocalType
heard_late_types =
    Select b (left_or_right
    (Recv c IntSort (Send c IntSort (Select c (More (codes "x") End NoMore))))
    (Recv c IntSort (Send c IntSort (Select c (More (codes "y") End NoMore)))))
    ∷ Branch a (left_or_right End (Recv c BoolSort End))
    ∷ Send a IntSort (Recv a IntSort (Branch a (More (codes "x") End (More (codes "y") (Send b BoolSort End) NoMore))))
    ∷ []

-- b and c agree on a sort only by what a tells each of them
abbrev pub told_apart : GlobalType
told_apart =
    chosen (told protocols.a protocols.c (codes "l") (int_to protocols.b protocols.c global.End))
    (told protocols.a protocols.c (codes "r") (bool_to protocols.b protocols.c global.End))

abbrev pub told_apart_types : List LocalType
told_apart_types =
    Select b (left_or_right (Select c (More (codes "l") End NoMore)) (Select c (More (codes "r") End NoMore)))
    ∷ Branch a (left_or_right (Send c IntSort End) (Send c BoolSort End))
    ∷ Branch a (left_or_right (Recv b IntSort End) (Recv b BoolSort End))
    ∷ []

-- c's answer and what followed from b's receipt are taken back, and another answer is given
abbrev pub AnotherAnswerIsGiven : Type 0
AnotherAnswerIsGiven =
    answers verdict initial (relayed_then (chooses c a (codes "ok") ∷ rolls_back b 2 ∷ receives_into b a (codes "y")
    ∷ sends_int b c 9 ∷ receives_into c b (codes "z") ∷ chooses c a (codes "no") ∷ picks a c ∷ []))
    ≡ relay_done_then (done 5 ∷ Undone (5 ∷ 4 ∷ 3 ∷ 2 ∷ []) ∷ done_with 6 5 ∷ done 7 ∷ done_with 8 9 ∷ done 9
    ∷ done_label 10 (codes "no") ∷ [])

-- a is two rounds ahead of b and c; a rollback of its second message to b leaves what b and c received before
abbrev pub RoundsGoOn : Type 0
RoundsGoOn =
    answers loop_types initial
    (sends_int a c 1 ∷ sends_int a b 2 ∷ sends_int a c 3 ∷ sends_int a b 4 ∷ receives_into b a (codes "x")
    ∷ receives_into c a (codes "x")
    ∷ sends_int a b 5 ∷ rolls_back a 4 ∷ receives_into b a (codes "x") ∷ receives_into c a (codes "x") ∷ sends_int a b 6
    ∷ receives_into b a (codes "x") ∷ [])
    ≡ done 1 ∷ done 2 ∷ done 3 ∷ done 4 ∷ done_with 5 2 ∷ done_with 6 1
    ∷ violates WrongPeer ∷ Undone (4 ∷ []) ∷ violates NothingQueued ∷ done_with 7 3 ∷ done 8 ∷ done_with 9 6 ∷ []

-- a chooses one branch and then the other, and c receives what is sent in both, before b knows of either
abbrev pub EitherBranchIsTaken : Type 0
EitherBranchIsTaken =
    answers merging_types initial
    (chooses a b (codes "r") ∷ sends_int a c 1 ∷ receives_into c a (codes "x") ∷ chooses a b (codes "l")
    ∷ sends_int a c 2 ∷ receives_into c a (codes "x") ∷ picks b a ∷ picks b a ∷ [])
    ≡ done 1 ∷ done 2 ∷ done_with 3 1 ∷ done 4 ∷ done 5 ∷ done_with 6 2 ∷ done_label 7 (codes "r")
    ∷ done_label 8 (codes "l") ∷ []

-- a goes one round with c and tells it of the end before b knows of either; a rollback of the end leaves the round
abbrev pub ThreeLeaveTogether : Type 0
ThreeLeaveTogether =
    answers round_types initial
    (chooses a b (codes "l") ∷ chooses a c (codes "more") ∷ picks c a ∷ sends_int c a 5 ∷ receives_into a c (codes "x")
    ∷ chooses a b (codes "r") ∷ chooses a c (codes "stop") ∷ picks c a ∷ rolls_back a 7 ∷ chooses a c (codes "stop")
    ∷ picks b a ∷ picks b a ∷ picks c a ∷ [])
    ≡ done 1 ∷ done 2 ∷ done_label 3 (codes "more") ∷ done 4 ∷ done_with 5 5 ∷ done 6 ∷ done 7
    ∷ done_label 8 (codes "stop") ∷ Undone (8 ∷ 7 ∷ []) ∷ done 9 ∷ done_label 10 (codes "l") ∷ done_label 11 (codes "r")
    ∷ done_label 12 (codes "stop") ∷ []

-- a takes back its choice of a branch, with the label that c had not picked and the value that c had received, and takes the
-- other branch: c's own value is there still, and what it receives now is of that branch
abbrev pub AnotherBranchIsTaken : Type 0
AnotherBranchIsTaken =
    answers heard_late_types initial
    (sends_int c a 5 ∷ chooses a b (codes "l") ∷ receives_into a c (codes "u") ∷ sends_int a c 6 ∷ chooses a c (codes "x")
    ∷ receives_into c a (codes "v") ∷ rolls_back a 2 ∷ picks c a ∷ chooses a b (codes "r") ∷ receives_into a c (codes "u")
    ∷ sends_int a c 7 ∷ chooses a c (codes "y") ∷ receives_into c a (codes "v") ∷ picks c a ∷ sends_true c b ∷ picks b a ∷ [])
    ≡ done 1 ∷ done 2 ∷ done_with 3 5 ∷ done 4 ∷ done 5 ∷ done_with 6 6 ∷ Undone (6 ∷ 5 ∷ 4 ∷ 3 ∷ 2 ∷ [])
    ∷ violates WrongAct ∷ done 7 ∷ done_with 8 5 ∷ done 9 ∷ done 10 ∷ done_with 11 7 ∷ done_label 12 (codes "y") ∷ done 13
    ∷ done_label 14 (codes "r") ∷ []

-- where the types aren't of one protocol, a message need not be the expected one: b expects a bool
abbrev pub TypesHaveToFit : Type 0
TypesHaveToFit = ¬ (IsFaithful (view_reached unfitting (sends_int a b 5 ∷ [])))

-- and these types aren't dual
abbrev pub SortsHaveToAgree : Type 0
SortsHaveToAgree = ¬ (AreDual a b (Send b IntSort End) (Recv a BoolSort End))

-- nor is it where a third role has the type of the one branch, and the branches differ in what it does: a takes the
-- other
abbrev pub unmerged : GlobalType
unmerged = chosen (int_to protocols.a protocols.c global.End) (bool_to protocols.a protocols.c global.End)

abbrev pub first_branch_types : List LocalType
first_branch_types =
    Select b (left_or_right (Send c IntSort End) (Send c BoolSort End))
    ∷ Branch a (left_or_right End End)
    ∷ Recv a IntSort End
    ∷ []

abbrev pub BranchesHaveToAgree : Type 0
BranchesHaveToAgree =
    ¬ (IsFaithful
    (view_reached first_branch_types (chooses a b (codes "r") ∷ (a, Forward (steps.Send c (Truth true))) ∷ [])))

-- nor is a label where a third role knows the labels of the first branch alone
abbrev pub first_label_types : List LocalType
first_label_types =
    Select b (left_or_right (Select c (More (codes "l") End NoMore)) (Select c (More (codes "r") End NoMore)))
    ∷ Branch a (left_or_right (Send c IntSort End) (Send c BoolSort End))
    ∷ Branch a (More (codes "l") (Recv b IntSort End) NoMore)
    ∷ []

abbrev pub LabelsHaveToUnite : Type 0
LabelsHaveToUnite =
    answers first_label_types initial (chooses a b (codes "r") ∷ chooses a c (codes "r") ∷ picks c a ∷ [])
    ≡ done 1 ∷ done 2 ∷ violates Mismatch ∷ []

-- two roles that each send before they receive: messages wait in both directions
abbrev pub both_send_first : List LocalType
both_send_first = Send b IntSort (Recv b IntSort End) ∷ Send a IntSort (Recv a IntSort End) ∷ []

abbrev pub OneHasToReceiveFirst : Type 0
OneHasToReceiveFirst = ¬ (IsHalfDuplex (view_reached both_send_first (sends_int a b 1 ∷ sends_int b a 2 ∷ [])) a b)
