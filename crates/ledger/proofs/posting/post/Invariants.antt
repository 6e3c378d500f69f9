use Rattle.std.proofs.Common.{◌≡◌, ℕ, ◌<◌, length, get_or}
use Rattle.ledger.specs.Tables.{posted}
use Rattle.ledger.proofs.Standing.{blank}
use Rattle.ledger.proofs.posting.post.Given as goal

abbrev pub invariant-loop-place : goal.invariant-loop-place
invariant-loop-place l = (k : ℕ) → k < length l.yielded → get_or l.entries k blank ≡ posted l.hour.number l.new l.standing k
