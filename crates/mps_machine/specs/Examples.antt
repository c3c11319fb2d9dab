-- Worked sessions: what the machine answers to short lists of requests, as answers were worked out by hand.
use Rattle.std.specs.Prelude.{◌≡◌, ℕ, true, List, [], ◌∷◌, ◌++◌, Some, None, codes, pos}
use Rattle.mps_base.specs.declared.action.Message.TheVariants.{Value as Plain, Label}
use Rattle.mps_base.specs.declared.value.Value.TheVariants.{Int, Bool as Truth, Text as Words}
use Rattle.mps_base.specs.declared.value.Sort.TheVariants.{Int as IntSort, Bool as BoolSort, Text as TextSort}
use Rattle.mps_local.specs.Local.{LocalType, End, Var, Rec, Send, Recv, Select, Branch, NoMore, More}
use Rattle.mps_history.specs.Steps.{numbers}
use Rattle.mps_history.specs.Swaps.{deeds, Swaps}
use Rattle.mps_command.specs.declared.command.Forward.TheVariants as steps
use Rattle.mps_command.specs.declared.command.Change.TheVariants.{Forward, Undo, Rollback, Back}
use Rattle.mps_command.specs.declared.answer.Violation.{Violation}
use Rattle.mps_command.specs.declared.answer.Violation.TheVariants.{Ended, WrongAct, WrongPeer, WrongSort, NoLabel}
use Rattle.mps_command.specs.declared.answer.Violation.TheVariants.{NothingQueued, Mismatch}
use Rattle.mps_command.specs.declared.answer.Refusal.TheVariants.{Violation as Violates, NoStep, NotYours, Final}
use Rattle.mps_command.specs.declared.answer.Refusal.TheVariants.{Needed, NoMark, Full}
use Rattle.mps_command.specs.declared.answer.Answer.{Answer}
use Rattle.mps_command.specs.declared.answer.Answer.TheVariants.{Done, Undone, Refused}
use Rattle.mps_machine.specs.Machine.{State, initial, view_of, Request, answers, after}
use Rattle.mps_machine.specs.Runs.{survivors}

-- roles, by their places
abbrev pub a : ℕ
a = 0

abbrev pub b : ℕ
b = 1

abbrev pub c : ℕ
c = 2

abbrev pub d : ℕ
d = 3

-- requests
abbrev pub sends_int : ℕ → ℕ → ℕ → Request
sends_int p q n = (p, Forward (steps.Send q (Int (pos n))))

abbrev pub sends_true : ℕ → ℕ → Request
sends_true p q = (p, Forward (steps.Send q (Truth true)))

abbrev pub receives_into : ℕ → ℕ → List ℕ → Request
receives_into q p slot = (q, Forward (steps.Receive p slot))

abbrev pub chooses : ℕ → ℕ → List ℕ → Request
chooses p q label = (p, Forward (steps.Choose q label))

abbrev pub picks : ℕ → ℕ → Request
picks q p = (q, Forward (steps.Pick p))

abbrev pub marks : ℕ → List ℕ → Request
marks p name = (p, Forward (steps.Mark name))

abbrev pub commits : ℕ → Request
commits p = (p, Forward steps.Commit)

abbrev pub undoes : ℕ → ℕ → Request
undoes p n = (p, Undo n)

abbrev pub rolls_back : ℕ → ℕ → Request
rolls_back p n = (p, Rollback n)

abbrev pub goes_back : ℕ → List ℕ → Request
goes_back p name = (p, Back name)

-- answers
abbrev pub done : ℕ → Answer
done n = Done (record { id = n; got = None })

abbrev pub done_with : ℕ → ℕ → Answer
done_with n v = Done (record { id = n; got = Some (Plain (Int (pos v))) })

abbrev pub done_label : ℕ → List ℕ → Answer
done_label n l = Done (record { id = n; got = Some (Label l) })

abbrev pub violates : Violation → Answer
violates v = Refused (Violates v)

-- a gives b an int, b gives c an int, and c tells a yes or no
abbrev pub verdict : List LocalType
verdict =
    Send b IntSort (Branch c (More (codes "ok") End (More (codes "no") End NoMore)))
    ∷ Recv a IntSort (Send c IntSort End)
    ∷ Recv b IntSort (Select a (More (codes "ok") End (More (codes "no") End NoMore)))
    ∷ []

-- a gives b an int, and c gives d one
abbrev pub two_pairs : List LocalType
two_pairs = Send b IntSort End ∷ Recv a IntSort End ∷ Send d IntSort End ∷ Recv c IntSort End ∷ []

-- a gives b ints, without end
abbrev pub stream : List LocalType
stream = Rec (codes "X") (Send b IntSort (Var (codes "X"))) ∷ Rec (codes "X") (Recv a IntSort (Var (codes "X"))) ∷ []

-- a tells b to go on, and b gives it a text, or to stop
abbrev pub round : List LocalType
round =
    Rec (codes "X") (Select b (More (codes "go") (Recv b TextSort (Var (codes "X"))) (More (codes "stop") End NoMore)))
    ∷ Rec (codes "X")
    (Branch a (More (codes "go") (Send a TextSort (Var (codes "X"))) (More (codes "stop") End NoMore)))
    ∷ []

-- the sender expects an int to be taken, the receiver a bool to come
abbrev pub unfitting : List LocalType
unfitting = Send b IntSort End ∷ Recv a BoolSort End ∷ []

-- a gives b an int, which b expects, and c gives b a bool, which b never expects
abbrev pub from_two : List LocalType
from_two = Send b IntSort End ∷ Recv a IntSort End ∷ Send b BoolSort End ∷ []

-- the sender chooses x, the receiver expects y alone
abbrev pub other_label : List LocalType
other_label = Select b (More (codes "x") End NoMore) ∷ Branch a (More (codes "y") End NoMore) ∷ []

-- the sender gives an int, the receiver expects a label
abbrev pub value_for_a_label : List LocalType
value_for_a_label = Send b IntSort End ∷ Branch a (More (codes "y") End NoMore) ∷ []

-- the sender chooses x, the receiver expects an int
abbrev pub label_for_a_value : List LocalType
label_for_a_value = Select b (More (codes "x") End NoMore) ∷ Recv a IntSort End ∷ []

-- nothing survives, and this is the next number
abbrev pub from_number : ℕ → State
from_number n = record { history = []; next = n }

-- a value is relayed from a over b to c in four steps, and then more is asked for
abbrev pub relayed_then : List Request → List Request
relayed_then more =
    sends_int a b 5 ∷ receives_into b a (codes "x") ∷ sends_int b c 7 ∷ receives_into c b (codes "y") ∷ more

-- what the four steps are answered, and then more
abbrev pub relay_done_then : List Answer → List Answer
relay_done_then more = done 1 ∷ done_with 2 5 ∷ done 3 ∷ done_with 4 7 ∷ more

-- an undo waits for the undo of what depends on it
abbrev pub AnUndoWaitsForTheReceipt : Type 0
AnUndoWaitsForTheReceipt =
    answers verdict initial
    (sends_int a b 5 ∷ receives_into b a (codes "x") ∷ undoes a 1 ∷ undoes b 2 ∷ undoes a 1 ∷ [])
    ≡ done 1 ∷ done_with 2 5 ∷ Refused (Needed 2) ∷ Undone (2 ∷ []) ∷ Undone (1 ∷ []) ∷ []

-- a rollback of the first step removes all that depends on it, the newest first
abbrev pub ARollbackRemovesAllThatDepends : Type 0
ARollbackRemovesAllThatDepends =
    answers verdict initial (relayed_then (rolls_back a 1 ∷ []))
    ≡ relay_done_then (Undone (4 ∷ 3 ∷ 2 ∷ 1 ∷ []) ∷ [])

-- a rollback of the second step removes that step and what depends on it, and leaves the first
abbrev pub ARollbackLeavesWhatCameBefore : Type 0
ARollbackLeavesWhatCameBefore =
    answers verdict initial (relayed_then (rolls_back b 2 ∷ []))
    ≡ relay_done_then (Undone (4 ∷ 3 ∷ 2 ∷ []) ∷ [])

-- a rollback leaves what doesn't depend on the step
abbrev pub ARollbackLeavesTheStrangers : Type 0
ARollbackLeavesTheStrangers =
    let requests = sends_int a b 1 ∷ sends_int c d 2 ∷ rolls_back a 1 ∷ [] in
    (answers two_pairs initial requests ≡ done 1 ∷ done 2 ∷ Undone (1 ∷ []) ∷ [])
    × (numbers (after two_pairs initial requests).history ≡ 2 ∷ [])

-- an undone receipt takes the same message again
abbrev pub AReceiptUndoneTakesTheSameMessageAgain : Type 0
AReceiptUndoneTakesTheSameMessageAgain =
    answers stream initial (sends_int a b 1 ∷ sends_int a b 2 ∷ receives_into b a (codes "x") ∷ undoes b 3
    ∷ receives_into b a (codes "x") ∷ [])
    ≡ done 1 ∷ done 2 ∷ done_with 3 1 ∷ Undone (3 ∷ []) ∷ done_with 4 1 ∷ []

-- an undone send is gone, and its number with it
abbrev pub AnUndoneSendIsGone : Type 0
AnUndoneSendIsGone =
    answers stream initial (sends_int a b 1 ∷ receives_into b a (codes "x") ∷ undoes b 2 ∷ undoes a 1 ∷ sends_int a b 9
    ∷ receives_into b a (codes "x") ∷ [])
    ≡ done 1 ∷ done_with 2 1 ∷ Undone (2 ∷ []) ∷ Undone (1 ∷ []) ∷ done 3 ∷ done_with 4 9 ∷ []

-- a second receipt into one slot is undone
abbrev pub AReceiptIntoAUsedSlotIsUndone : Type 0
AReceiptIntoAUsedSlotIsUndone =
    answers stream initial (sends_int a b 1 ∷ sends_int a b 2 ∷ receives_into b a (codes "x")
    ∷ receives_into b a (codes "x") ∷ undoes b 4 ∷ [])
    ≡ done 1 ∷ done 2 ∷ done_with 3 1 ∷ done_with 4 2 ∷ Undone (4 ∷ []) ∷ []

-- the least dependent is named, here the role's next send
abbrev pub TheLeastDependentIsNamedASend : Type 0
TheLeastDependentIsNamedASend =
    answers stream initial (sends_int a b 1 ∷ sends_int a b 2 ∷ receives_into b a (codes "x") ∷ undoes a 1 ∷ [])
    ≡ done 1 ∷ done 2 ∷ done_with 3 1 ∷ Refused (Needed 2) ∷ []

-- the least dependent is named, here the receipt
abbrev pub TheLeastDependentIsNamedAReceipt : Type 0
TheLeastDependentIsNamedAReceipt =
    answers stream initial (sends_int a b 1 ∷ receives_into b a (codes "x") ∷ sends_int a b 2 ∷ undoes a 1 ∷ [])
    ≡ done 1 ∷ done_with 2 1 ∷ done 3 ∷ Refused (Needed 2) ∷ []

-- a return to a mark removes what came after it, then nothing, and needs the mark
abbrev pub AReturnToAMarkLeavesTheMark : Type 0
AReturnToAMarkLeavesTheMark =
    answers stream initial (marks a (codes "m") ∷ sends_int a b 1 ∷ receives_into b a (codes "x")
    ∷ goes_back a (codes "m") ∷ goes_back a (codes "m") ∷ undoes a 1 ∷ goes_back a (codes "m") ∷ [])
    ≡ done 1 ∷ done 2 ∷ done_with 3 1 ∷ Undone (3 ∷ 2 ∷ []) ∷ Undone [] ∷ Undone (1 ∷ []) ∷ Refused NoMark ∷ []

-- a number is never used again
abbrev pub NumbersAreNeverUsedAgain : Type 0
NumbersAreNeverUsedAgain =
    answers stream initial (sends_int a b 1 ∷ undoes a 1 ∷ sends_int a b 2 ∷ undoes a 1 ∷ [])
    ≡ done 1 ∷ Undone (1 ∷ []) ∷ done 2 ∷ Refused NoStep ∷ []

-- each refusal by its name
abbrev pub RefusalsAreNamed : Type 0
RefusalsAreNamed =
    answers verdict initial (receives_into b a (codes "x") ∷ receives_into a b (codes "x") ∷ sends_int a c 5
    ∷ sends_true a b ∷ undoes b 7 ∷ sends_int a b 5 ∷ undoes b 1 ∷ [])
    ≡ violates NothingQueued ∷ violates WrongAct ∷ violates WrongPeer ∷ violates WrongSort ∷ Refused NoStep ∷ done 1
    ∷ Refused NotYours ∷ []

-- of several violations the first is told: another act before another peer, and another peer before another sort,
-- before an empty queue, and before a message of another sort that waits from that peer
abbrev pub TheFirstViolationIsTold : Type 0
TheFirstViolationIsTold =
    (answers verdict initial (sends_true a c ∷ receives_into b c (codes "x") ∷ receives_into a c (codes "x")
    ∷ sends_int b c 7 ∷ sends_true b a ∷ [])
    ≡ violates WrongPeer ∷ violates WrongPeer ∷ violates WrongAct ∷ violates WrongAct ∷ violates WrongAct ∷ [])
    × (answers from_two initial (sends_true c b ∷ receives_into b c (codes "x") ∷ receives_into b a (codes "x")
    ∷ sends_int a b 5 ∷ receives_into b c (codes "x") ∷ receives_into b a (codes "x") ∷ [])
    ≡ done 1 ∷ violates WrongPeer ∷ violates NothingQueued ∷ done 2 ∷ violates WrongPeer ∷ done_with 3 5 ∷ [])

-- a choice is made, picked, and ends the part
abbrev pub AChoiceIsMadeAndPicked : Type 0
AChoiceIsMadeAndPicked =
    answers verdict initial (relayed_then (chooses c a (codes "maybe") ∷ picks a c ∷ chooses c a (codes "ok")
    ∷ picks a c ∷ marks a (codes "e") ∷ sends_int a b 1 ∷ []))
    ≡ relay_done_then
    (violates NoLabel ∷ violates NothingQueued ∷ done 5 ∷ done_label 6 (codes "ok") ∷ done 7 ∷ violates Ended ∷ [])

-- a loop with a choice is gone round to its end, each time by the branch that was chosen
abbrev pub ALoopIsGoneRound : Type 0
ALoopIsGoneRound =
    answers round initial (chooses a b (codes "go") ∷ picks b a ∷ (b, Forward (steps.Send a (Words (codes "good day"))))
    ∷ chooses a b (codes "stop") ∷ receives_into a b (codes "w") ∷ chooses a b (codes "stop") ∷ picks b a
    ∷ picks b a ∷ [])
    ≡ done 1 ∷ done_label 2 (codes "go") ∷ done 3 ∷ violates WrongAct
    ∷ Done (record { id = 4; got = Some (Plain (Words (codes "good day"))) }) ∷ done 5 ∷ done_label 6 (codes "stop")
    ∷ violates Ended ∷ []

-- a message of another sort than the receiver expects stays
abbrev pub AMessageOfAnotherSortIsAMismatch : Type 0
AMessageOfAnotherSortIsAMismatch =
    answers unfitting initial (sends_int a b 5 ∷ receives_into b a (codes "x") ∷ [])
    ≡ done 1 ∷ violates Mismatch ∷ []

-- after a rollback of the receipt, its message waits again and the send survives
abbrev pub TheMessageWaitsAgain : Type 0
TheMessageWaitsAgain =
    let h = (after verdict initial (relayed_then (rolls_back b 2 ∷ []))).history in
    ((view_of verdict h).queue a b ≡ Plain (Int (pos 5)) ∷ []) × (numbers h ≡ 1 ∷ [])

-- after an undo of the second receipt into a slot, the slot has the first value, and the second message waits again
abbrev pub TheSlotHasItsOldValue : Type 0
TheSlotHasItsOldValue =
    let v = view_of stream (after stream initial (sends_int a b 1 ∷ sends_int a b 2 ∷ receives_into b a (codes "x")
    ∷ receives_into b a (codes "x") ∷ undoes b 4 ∷ [])).history in
    ((v.participant b).store ≡ (codes "x", Int (pos 1)) ∷ []) × (v.queue a b ≡ Plain (Int (pos 2)) ∷ [])

-- the number 100000 is given out, and none after it, also where the step is undone. An act that isn't allowed is
-- reported as that
abbrev pub AHundredThousandNumbersAreGivenOut : Type 0
AHundredThousandNumbersAreGivenOut =
    let requests = sends_int a b 1 ∷ sends_int a b 2 ∷ sends_int c b 3 ∷ sends_int c d 4 ∷ marks a (codes "m")
    ∷ undoes a 100000 ∷ sends_int a b 5 ∷ [] in
    (answers two_pairs (from_number 100000) requests
    ≡ done 100000 ∷ violates Ended ∷ violates WrongPeer ∷ Refused Full ∷ Refused Full ∷ Undone (100000 ∷ [])
    ∷ Refused Full ∷ [])
    × ((after two_pairs (from_number 100000) requests).next ≡ 100001)

-- a mark may have the number 100000, and none may have the next
abbrev pub AMarkMayHaveTheLastNumber : Type 0
AMarkMayHaveTheLastNumber =
    (answers stream (from_number 100000) (marks a (codes "m") ∷ []) ≡ done 100000 ∷ [])
    × ((after stream (from_number 100000) (marks a (codes "m") ∷ [])).next ≡ 100001)
    × (answers stream (from_number 100001) (marks a (codes "m") ∷ []) ≡ Refused Full ∷ [])

-- a return is to the role's own last mark of that name
abbrev pub AReturnIsToTheLastMarkOfTheName : Type 0
AReturnIsToTheLastMarkOfTheName =
    let marked = marks a (codes "m") ∷ sends_int a b 1 ∷ marks a (codes "k") ∷ marks a (codes "m") ∷ sends_int a b 2
    ∷ marks b (codes "m") ∷ [] in
    let st = after stream initial marked in
    (answers stream initial marked ≡ done 1 ∷ done 2 ∷ done 3 ∷ done 4 ∷ done 5 ∷ done 6 ∷ [])
    × (answers stream st (goes_back b (codes "k") ∷ goes_back a (codes "m") ∷ goes_back a (codes "k")
    ∷ goes_back a (codes "m") ∷ goes_back a (codes "k") ∷ goes_back b (codes "m") ∷ [])
    ≡ Refused NoMark ∷ Undone (5 ∷ []) ∷ Undone (4 ∷ []) ∷ Undone (3 ∷ 2 ∷ []) ∷ Refused NoMark ∷ Undone [] ∷ [])

-- a step that isn't there, or is another role's, is reported as that, whether others depend on it or not
abbrev pub AnotherRolesStepIsNotYours : Type 0
AnotherRolesStepIsNotYours =
    answers verdict initial (sends_int a b 5 ∷ receives_into b a (codes "x") ∷ undoes c 1 ∷ undoes b 1 ∷ undoes a 3
    ∷ rolls_back a 3 ∷ rolls_back b 1 ∷ rolls_back a 2 ∷ undoes a 1 ∷ [])
    ≡ done 1 ∷ done_with 2 5 ∷ Refused NotYours ∷ Refused NotYours ∷ Refused NoStep ∷ Refused NoStep ∷ Refused NotYours
    ∷ Refused NotYours ∷ Refused (Needed 2) ∷ []

-- at a choice another peer is told before another label, and a value is another kind of act
abbrev pub AChoiceIsOfOnePeer : Type 0
AChoiceIsOfOnePeer =
    answers verdict initial (relayed_then (chooses c b (codes "maybe") ∷ chooses c b (codes "ok") ∷ picks a b
    ∷ sends_int c a 1 ∷ receives_into a c (codes "x") ∷ []))
    ≡ relay_done_then
    (violates WrongPeer ∷ violates WrongPeer ∷ violates WrongPeer ∷ violates WrongAct ∷ violates WrongAct ∷ [])

-- a label that the receiver doesn't expect stays, as does a value where a label is expected, and a label where a value
-- is
abbrev pub AnUnexpectedMessageIsAMismatch : Type 0
AnUnexpectedMessageIsAMismatch =
    (answers other_label initial (chooses a b (codes "x") ∷ picks b a ∷ []) ≡ done 1 ∷ violates Mismatch ∷ [])
    × (answers value_for_a_label initial (sends_int a b 5 ∷ picks b a ∷ []) ≡ done 1 ∷ violates Mismatch ∷ [])
    × (answers label_for_a_value initial (chooses a b (codes "x") ∷ receives_into b a (codes "s") ∷ [])
    ≡ done 1 ∷ violates Mismatch ∷ [])

-- a slot that is bound again keeps its place
abbrev pub ASlotKeepsItsPlace : Type 0
ASlotKeepsItsPlace =
    let sent = sends_int a b 1 ∷ sends_int a b 2 ∷ sends_int a b 3 ∷ receives_into b a (codes "x")
    ∷ receives_into b a (codes "y") ∷ receives_into b a (codes "x") ∷ [] in
    ((view_of stream (after stream initial sent).history).participant b).store
    ≡ (codes "x", Int (pos 3)) ∷ (codes "y", Int (pos 2)) ∷ []

-- whoever tries to undo a commit, or what it depends on, is told which commit stands in the way, and nothing changes
abbrev pub ACommitStandsInTheWay : Type 0
ACommitStandsInTheWay =
    answers stream initial (marks a (codes "m") ∷ sends_int a b 1 ∷ receives_into b a (codes "x") ∷ commits b
    ∷ goes_back a (codes "m") ∷ rolls_back a 1 ∷ undoes a 2 ∷ undoes b 4 ∷ undoes b 3 ∷ undoes a 4 ∷ commits a
    ∷ rolls_back a 1 ∷ [])
    ≡ done 1 ∷ done 2 ∷ done_with 3 1 ∷ done 4 ∷ Refused (Final 4) ∷ Refused (Final 4) ∷ Refused (Needed 3)
    ∷ Refused (Final 4) ∷ Refused (Needed 4) ∷ Refused NotYours ∷ done 5 ∷ Refused (Final 4) ∷ []

-- of a step of another role this is told before a commit, and a commit before a step that depends on it
abbrev pub TheFirstReasonAgainstAnUndoIsTold : Type 0
TheFirstReasonAgainstAnUndoIsTold =
    answers stream initial
    (commits a ∷ sends_int a b 1 ∷ undoes a 1 ∷ rolls_back b 1 ∷ rolls_back a 1 ∷ rolls_back b 2 ∷ undoes b 1 ∷ [])
    ≡ done 1 ∷ done 2 ∷ Refused (Final 1) ∷ Refused NotYours ∷ Refused (Final 1) ∷ Refused NotYours ∷ Refused NotYours
    ∷ []

-- a commit doesn't keep what it doesn't depend on
abbrev pub ACommitLeavesTheStrangers : Type 0
ACommitLeavesTheStrangers =
    answers two_pairs initial (commits c ∷ sends_int a b 1 ∷ rolls_back a 2 ∷ [])
    ≡ done 1 ∷ done 2 ∷ Undone (2 ∷ []) ∷ []

-- what a role did after a commit can be undone, the commit not
abbrev pub WhatCameAfterACommitCanBeUndone : Type 0
WhatCameAfterACommitCanBeUndone =
    answers stream initial (sends_int a b 1 ∷ commits a ∷ sends_int a b 2 ∷ sends_int a b 3 ∷ undoes a 4
    ∷ rolls_back a 3 ∷ undoes a 2 ∷ rolls_back a 2 ∷ rolls_back a 1 ∷ undoes a 1 ∷ [])
    ≡ done 1 ∷ done 2 ∷ done 3 ∷ done 4 ∷ Undone (4 ∷ []) ∷ Undone (3 ∷ []) ∷ Refused (Final 2) ∷ Refused (Final 2)
    ∷ Refused (Final 2) ∷ Refused (Needed 2) ∷ []

-- a commit is allowed where the role's part has ended, and may have the number 100000
abbrev pub ACommitIsAllowedAtTheEnd : Type 0
ACommitIsAllowedAtTheEnd =
    (answers two_pairs initial (sends_int a b 1 ∷ commits a ∷ sends_int a b 2 ∷ [])
    ≡ done 1 ∷ done 2 ∷ violates Ended ∷ [])
    × (answers two_pairs (from_number 100000) (commits a ∷ commits a ∷ undoes a 100000 ∷ [])
    ≡ done 100000 ∷ Refused Full ∷ Refused (Final 100000) ∷ [])

-- a return that removes nothing is accepted after a commit too
abbrev pub AnEmptyReturnIsNeverFinal : Type 0
AnEmptyReturnIsNeverFinal =
    answers stream initial (commits a ∷ marks a (codes "m") ∷ goes_back a (codes "m") ∷ [])
    ≡ done 1 ∷ done 2 ∷ Undone [] ∷ []

-- where several commits stand in the way, the least is named
abbrev pub TheLeastCommitIsNamed : Type 0
TheLeastCommitIsNamed =
    answers stream initial (marks a (codes "m") ∷ sends_int a b 1 ∷ receives_into b a (codes "x") ∷ commits b
    ∷ commits a ∷ rolls_back a 2 ∷ goes_back a (codes "m") ∷ rolls_back b 3 ∷ rolls_back a 5 ∷ [])
    ≡ done 1 ∷ done 2 ∷ done_with 3 1 ∷ done 4 ∷ done 5 ∷ Refused (Final 4) ∷ Refused (Final 4) ∷ Refused (Final 4)
    ∷ Refused (Final 5) ∷ []

-- either of two rollbacks may come first: the same steps are left, and what went with the first is gone
abbrev pub EitherRollbackMayComeFirst : Type 0
EitherRollbackMayComeFirst =
    let takes = receives_into b a (codes "x") in
    let two_sends = sends_int a b 1 ∷ takes ∷ sends_int a b 2 ∷ takes ∷ [] in
    let sender_first = two_sends ++ rolls_back a 3 ∷ rolls_back b 4 ∷ [] in
    let receiver_first = two_sends ++ rolls_back b 4 ∷ rolls_back a 3 ∷ [] in
    let taken = done 1 ∷ done_with 2 1 ∷ done 3 ∷ done_with 4 2 ∷ [] in
    (answers stream initial sender_first ≡ taken ++ Undone (4 ∷ 3 ∷ []) ∷ Refused NoStep ∷ [])
    × (answers stream initial receiver_first ≡ taken ++ Undone (4 ∷ []) ∷ Undone (3 ∷ []) ∷ [])
    × (numbers (after stream initial sender_first).history ≡ 1 ∷ 2 ∷ [])
    × (numbers (after stream initial receiver_first).history ≡ 1 ∷ 2 ∷ [])

-- what was done and undone on the way leaves no trace, numbers aside
abbrev pub ADetourLeavesNoTrace : Type 0
ADetourLeavesNoTrace =
    let detour = sends_int a b 1 ∷ receives_into b a (codes "x") ∷ rolls_back a 1 ∷ sends_int a b 2 ∷ [] in
    (deeds (survivors stream detour) ≡ deeds (survivors stream (sends_int a b 2 ∷ [])))
    × (numbers (survivors stream detour) ≡ 3 ∷ [])

-- sends of strangers may be exchanged
abbrev pub StrangersMayChangePlaces : Type 0
StrangersMayChangePlaces =
    Swaps (survivors two_pairs (sends_int a b 1 ∷ sends_int c d 2 ∷ []))
    (survivors two_pairs (sends_int c d 2 ∷ sends_int a b 1 ∷ []))
