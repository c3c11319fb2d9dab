-- Worked states, as they were written out by hand.
use Rattle.std.specs.Prelude.{◌≡◌, ℕ, List, [], ◌∷◌, codes}
use Rattle.mps_machine.specs.Examples.{a, b, c, verdict, sends_int, receives_into, chooses, picks}
use Rattle.mps_machine.specs.Machine.{Request, initial, after}
use Rattle.mps_show.specs.Shown.{show_text, stand_text}

abbrev pub three : List (List ℕ)
three = codes "a" ∷ codes "b" ∷ codes "c" ∷ []

-- what is shown after these requests
abbrev pub text_after : List Request → List ℕ
text_after requests = show_text three verdict (after verdict initial requests).history

-- a sent 5, and b didn't receive it yet
abbrev pub AMessageThatWaitsIsShown : Type 0
AMessageThatWaitsIsShown =
    text_after (sends_int a b 5 ∷ [])
    ≡ codes "{\"history\":[[1,\"a\",\"send\",\"b\",5]],\"queues\":[[\"a\",\"b\",[5]]],\"roles\":[{\"expects\":\"pick c ok no\",\"past\":[1],\"role\":\"a\",\"store\":[]},{\"expects\":\"recv a int\",\"past\":[],\"role\":\"b\",\"store\":[]},{\"expects\":\"recv b int\",\"past\":[],\"role\":\"c\",\"store\":[]}]}"

-- b received it into x
abbrev pub AReceivedMessageIsShown : Type 0
AReceivedMessageIsShown =
    text_after (sends_int a b 5 ∷ receives_into b a (codes "x") ∷ [])
    ≡ codes "{\"history\":[[1,\"a\",\"send\",\"b\",5],[2,\"b\",\"recv\",\"a\",\"x\",5]],\"queues\":[],\"roles\":[{\"expects\":\"pick c ok no\",\"past\":[1],\"role\":\"a\",\"store\":[]},{\"expects\":\"send c int\",\"past\":[2],\"role\":\"b\",\"store\":[[\"x\",5]]},{\"expects\":\"recv b int\",\"past\":[],\"role\":\"c\",\"store\":[]}]}"

-- then b sent 7 to c, who received it into y and chose ok, which a didn't pick yet
abbrev pub ALabelThatWaitsIsShown : Type 0
ALabelThatWaitsIsShown =
    text_after (sends_int a b 5 ∷ receives_into b a (codes "x") ∷ sends_int b c 7 ∷ receives_into c b (codes "y")
    ∷ chooses c a (codes "ok") ∷ [])
    ≡ codes "{\"history\":[[1,\"a\",\"send\",\"b\",5],[2,\"b\",\"recv\",\"a\",\"x\",5],[3,\"b\",\"send\",\"c\",7],[4,\"c\",\"recv\",\"b\",\"y\",7],[5,\"c\",\"choose\",\"a\",\"ok\"]],\"queues\":[[\"c\",\"a\",[{\"label\":\"ok\"}]]],\"roles\":[{\"expects\":\"pick c ok no\",\"past\":[1],\"role\":\"a\",\"store\":[]},{\"expects\":\"end\",\"past\":[2,3],\"role\":\"b\",\"store\":[[\"x\",5]]},{\"expects\":\"end\",\"past\":[4,5],\"role\":\"c\",\"store\":[[\"y\",7]]}]}"

-- how a role stands after these requests
abbrev pub stand_after : List Request → ℕ → List ℕ
stand_after requests p = stand_text three verdict (after verdict initial requests).history p

-- b received a's 5 into x; a picked c's label after its send, and before that it has its send
abbrev pub ARoleIsToldHowItStands : Type 0
ARoleIsToldHowItStands =
    (stand_after (sends_int a b 5 ∷ receives_into b a (codes "x") ∷ []) b
    ≡ codes "{\"expects\":\"send c int\",\"newest\":[2,\"b\",\"recv\",\"a\",\"x\",5],\"store\":[[\"x\",5]]}")
    × (stand_after (sends_int a b 5 ∷ receives_into b a (codes "x") ∷ sends_int b c 7 ∷ receives_into c b (codes "y")
    ∷ chooses c a (codes "ok") ∷ picks a c ∷ []) a
    ≡ codes "{\"expects\":\"end\",\"newest\":[6,\"a\",\"pick\",\"c\",\"ok\"],\"store\":[]}")
    × (stand_after (sends_int a b 5 ∷ receives_into b a (codes "x") ∷ []) a
    ≡ codes "{\"expects\":\"pick c ok no\",\"newest\":[1,\"a\",\"send\",\"b\",5],\"store\":[]}")

-- c did nothing yet
abbrev pub ARoleWithoutStepsIsTold : Type 0
ARoleWithoutStepsIsTold =
    stand_after (sends_int a b 5 ∷ []) c ≡ codes "{\"expects\":\"recv b int\",\"newest\":null,\"store\":[]}"
