-- The reasons of document 01, "Reasons for saying no", and of 02, by their numbers.
use Rattle.std.specs.Prelude.{ℕ, Result, Ok, Err}
use Rattle.protocol.specs.declared.Refusal.{Refusal}
use Rattle.protocol.specs.declared.Refusal.TheVariants.{WrongLength, ShortList, BadKinds, Unsound, NoSuchTransaction}
use Rattle.protocol.specs.declared.Refusal.TheVariants.{AlreadyLive, NotActive, NoObject, NotOfKind, LogFull, NoRoom}
use Rattle.protocol.specs.declared.Refusal.TheVariants.{TooMany}

-- 1 to 11 are numbered by document 01, 12 by 02; `Calls` says when each applies.
abbrev pub refusal_number : Refusal → ℕ
refusal_number WrongLength = 1
refusal_number ShortList = 2
refusal_number BadKinds = 3
refusal_number Unsound = 4
refusal_number NoSuchTransaction = 5
refusal_number AlreadyLive = 6
refusal_number NotActive = 7
refusal_number NoObject = 8
refusal_number NotOfKind = 9
refusal_number LogFull = 10
refusal_number NoRoom = 11
refusal_number TooMany = 12

-- The number of the reason that was found, 0 where none applies.
abbrev pub reason_of : {T : Type 0} → Result T Refusal → ℕ
reason_of (Ok found) = 0
reason_of (Err reason) = refusal_number reason
