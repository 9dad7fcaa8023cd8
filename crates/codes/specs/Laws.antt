-- Laws of replies as numbers.
use Rattle.std.specs.Prelude.{◌≡◌}
use Rattle.std.proofs.Common.{ap, sym}
use Rattle.protocol.specs.ReplyOf.{reply_of}
use Rattle.protocol.specs.declared.Reply.{Reply}
use Rattle.codes.specs.Codes.{numbers_of}

-- The numbers of a reply that is known.
pub known : (reply : Reply) {r : Reply} → reply ≡ r → numbers_of (reply_of r) ≡ numbers_of (reply_of reply)
known reply told = sym (ap (λ (x : Reply). numbers_of (reply_of x)) told)
