-- How long is waited, in nanoseconds. The code has constants of its own; clauses cite these.
use Rattle.std.specs.Prelude.{ℕ, ◌*◌, min, max}

-- 30 seconds, which one read or one write of a connection may wait
abbrev pub patience : ℕ
patience = 30_000_000_000

-- 60 seconds, which a client may take in all for a head, for each 8 KiB of a body, and for each 64 KiB of a text that it is sent
abbrev pub whole : ℕ
whole = 60_000_000_000

-- 1 second, after which others that wait are looked for, and an idle connection ends where no place is left
abbrev pub idleness : ℕ
idleness = 1_000_000_000

-- 10 milliseconds, for which a worker serves a connection while others wait
abbrev pub share : ℕ
share = 10_000_000

-- 50 milliseconds, the rest after an accept that failed
abbrev pub accept_pause : ℕ
accept_pause = 50_000_000

-- 1 second, which one read may wait for a client to end too, once its connection was served, and all such reads while others wait
abbrev pub linger_patience : ℕ
linger_patience = 1_000_000_000

-- 1 second, for which no more is told of failures of a kind
abbrev pub silence : ℕ
silence = 1_000_000_000

-- 1 millisecond, the least rest of the reclaimer after a sweep
abbrev pub least_rest : ℕ
least_rest = 1_000_000

-- 200 milliseconds, the most
abbrev pub most_rest : ℕ
most_rest = 200_000_000

-- the rest after a sweep that took so long: 16 times as long, but no less than the least and no more than the most
abbrev pub pause_after : ℕ → ℕ
pause_after taken = min (max (taken * 16) least_rest) most_rest
