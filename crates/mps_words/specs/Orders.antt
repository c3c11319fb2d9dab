-- What the words may order.
use Rattle.std.specs.Prelude.{◌≤◌, ◌<◌, ◌^◌, ℕ, Option, ⊤, IfSome}
use Rattle.mps_words.specs.declared.command.Watched.{Watched}
use Rattle.mps_words.specs.declared.command.Order.{Order}
use Rattle.mps_words.specs.declared.command.Order.TheVariants.{Serve, Host}

-- A server's counts are told at a port.
abbrev pub IsWatchedInRange : Watched → Type 0
IsWatchedInRange w = IfSome w.metrics (λ n. (1 ≤ n) × (n < 2 ^ 16))

-- What listens already is none of the standard streams.
abbrev pub IsListenerInRange : Option ℕ → Type 0
IsListenerInRange listener = IfSome listener (λ n. (3 ≤ n) × (n < 2 ^ 10))

-- A server has a port and 1 to 16 sessions, of which the first has a number from 1 to 2 ^ 63. Where so many
-- connections are accepted, they are 1 to 64; where one may be idle for so many seconds, they are 1 to 86,400, and where
-- answers may wait so many, 1 to 3,600. A host has a
-- port; 1 to 2 ^ 20 sessions may be open, each for 1 to 86,400 seconds in which nobody is in it. Of both each role may make
-- 1 to 100 percent of its session's entries.
abbrev pub IsInRange : Order → Type 0
IsInRange (Serve file port sessions first connections idle wait share journal watched listener verbose) =
    (port < 2 ^ 16) × (1 ≤ sessions) × (sessions ≤ 16) × (1 ≤ first) × (first ≤ 2 ^ 63)
    × IfSome connections (λ n. (1 ≤ n) × (n ≤ 64)) × IfSome idle (λ n. (1 ≤ n) × (n ≤ 86400))
    × IfSome wait (λ n. (1 ≤ n) × (n ≤ 3600)) × (1 ≤ share) × (share ≤ 100) × IsWatchedInRange watched
    × IsListenerInRange listener
IsInRange (Host file port most keep idle wait share journal watched listener verbose) =
    (port < 2 ^ 16) × (1 ≤ most) × (most ≤ 2 ^ 20) × (1 ≤ keep) × (keep ≤ 86400)
    × IfSome idle (λ n. (1 ≤ n) × (n ≤ 86400)) × IfSome wait (λ n. (1 ≤ n) × (n ≤ 3600))
    × (1 ≤ share) × (share ≤ 100) × IsWatchedInRange watched × IsListenerInRange listener
IsInRange order = ⊤
