-- The reply of a call's record, as it is printed.
use Rattle.std.specs.Prelude.{ℕ, ◌≡◌, refl, List, ◌∷◌, ◌++◌}
use Rattle.std.proofs.Common.{sym, ap, ◌∙◌}
use Rattle.std.proofs.Math.Option.{some, some-injective, none-ne-some}
use Rattle.bitset.specs.Bitset.{members, size}
use Rattle.protocol.specs.Replies as protocol
use Rattle.protocol.specs.Call.{Call, set_up, begin, operate, batch, finish, cancel, contents}
use Rattle.text.specs.Text.{ascii}
use Rattle.replies.specs.Printed.{spaced, printed}
use Rattle.journal.specs.Records.{Reply, Record}
use Rattle.journal.specs.Journal.{record_with, record_of_reply}
use Rattle.listing.specs.Listing.{reply_text}

-- A record has the reply that it is made with.
reply_kept : (call : Call) (reply : Reply) (r : Record) → record_with call reply ≡ some r → reply ≡ r.reply
reply_kept (set_up kinds) reply r e = ap (λ (x : Record). x.reply) (some-injective _ r e)
reply_kept (begin t) reply r e = ap (λ (x : Record). x.reply) (some-injective _ r e)
reply_kept (operate t o number k v) reply r e = ap (λ (x : Record). x.reply) (some-injective _ r e)
reply_kept (batch t operations) reply r e = ap (λ (x : Record). x.reply) (some-injective _ r e)
reply_kept (finish t list) reply r e = ap (λ (x : Record). x.reply) (some-injective _ r e)
reply_kept (cancel t list) reply r e = ap (λ (x : Record). x.reply) (some-injective _ r e)
reply_kept (contents o) reply r e = absurd (none-ne-some r e)

text_kept : (call : Call) (reply : Reply) (r : Record) → record_with call reply ≡ some r
    → reply_text r.reply ≡ reply_text reply
text_kept call reply r e = ap reply_text (sym (reply_kept call reply r e))

pub text_printed : (call : Call) (reply : protocol.Reply) (list : List ℕ) (r : Record)
    → ((owners count : ℕ) → reply ≡ protocol.wait owners count → count ≡ size owners)
    → record_of_reply call reply list ≡ some r
    → reply_text r.reply ≡ printed reply list
unfolding printed
text_printed call protocol.ok list r counted e = text_kept call _ r e
text_printed call (protocol.answered answers) list r counted e = text_kept call _ r e
text_printed call (protocol.wait owners count) list r counted e =
    text_kept call _ r e
    ∙ ap (λ (n : ℕ). ascii "wait" ++ spaced (n ∷ members owners)) (sym (counted owners count refl))
text_printed call protocol.finished list r counted e = text_kept call _ r e
text_printed call (protocol.committed count) list r counted e = text_kept call _ r e
text_printed call (protocol.circle count) list r counted e = text_kept call _ r e
text_printed call (protocol.cancelled count) list r counted e = text_kept call _ r e
text_printed call (protocol.counted rows) list r counted e = absurd (none-ne-some r e)
text_printed call (protocol.refused reason) list r counted e = absurd (none-ne-some r e)
