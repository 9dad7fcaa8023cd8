-- The operations of two entries on one object, by the words.
use Rattle.std.specs.Prelude.{ℕ, ◌+◌, ◌<◌, ◌≡◌, List}
use Rattle.std.proofs.Common.{sym, ap, subst, ◌∙◌, arith}
use Rattle.operations.specs.Operations.{Kind, kind_of, key_of, value_of}
use Rattle.operations.specs.PairRules.{Rules, rule_at, rule_for, first_number, last_number, Numbered, kind_numbered}
use Rattle.operations.proofs.Laws.Numbers.{kind_numbered_lem, is_numbered}
use Rattle.pairs.specs.Pairs.{first_of, column_of, width_of}
use Rattle.store.specs.Layout.{word, operation_at}
use Rattle.representatives.specs.Representatives.{entry_transaction, entry_object, entry_number, entry_key, entry_value}
use Rattle.representatives.specs.Representatives.{Readable}
use Rattle.dependencies.specs.declared.Entry.{Entry}
use Rattle.dependencies.specs.Dependencies.{EntryRead}
use Rattle.dependencies.specs.Laws.Numbers.{ranged}

module _ (w : List ℕ) (readable : Readable w) where
  number_read : (i : ℕ) → i < word w 0 → kind_numbered (entry_number w i) ≡ kind_of (operation_at w i)
  number_read i l = ap kind_numbered (sym (readable.stored i l).0) ∙ kind_numbered_lem (operation_at w i)

  pub numbered : (i : ℕ) → i < word w 0 → Numbered (entry_number w i)
  numbered i l = subst Numbered (readable.stored i l).0 (is_numbered (operation_at w i))

  module _ (i j : ℕ) (l : i < word w 0) (m : j < word w 0) (e : entry_object w j ≡ entry_object w i) where
    pub kind_read : kind_numbered (entry_number w j) ≡ kind_numbered (entry_number w i)
    kind_read = number_read j m ∙ (readable.kinds i j l m e ∙ sym (number_read i l))

    -- The rule for the two operations, by the words.
    pub rule_read : (rules : Kind → Rules) → rule_for rules (operation_at w i) (operation_at w j)
        ≡ rule_at (rules (kind_numbered (entry_number w i))) (column_of (entry_number w i)) (column_of
        (entry_number w j))
    rule_read rules = rw (kind_read, number_read i l, (readable.stored i l).0, (readable.stored j m).0)

    pub column_below : column_of (entry_number w j) < width_of (entry_number w i)
    column_below =
        let r = ranged (entry_number w j) (numbered j m) in
        omega (arith, r.least, r.most, ap first_number kind_read, ap last_number kind_read)

    -- The number of the logged operation, by its column.
    pub column_read : first_of (entry_number w i) + column_of (entry_number w j) ≡ entry_number w j
    column_read =
        let r = ranged (entry_number w j) (numbered j m) in omega (arith, r.least, ap first_number kind_read)

    pub key_read : entry_key w j ≡ entry_key w i → key_of (operation_at w i) ≡ key_of (operation_at w j)
    key_read k = (readable.stored i l).1 ∙ (sym k ∙ sym (readable.stored j m).1)

    pub key_written : key_of (operation_at w i) ≡ key_of (operation_at w j) → entry_key w j ≡ entry_key w i
    key_written k = sym (readable.stored j m).1 ∙ (sym k ∙ (readable.stored i l).1)

    pub value_read : entry_value w j ≡ entry_value w i → value_of (operation_at w i) ≡ value_of (operation_at w j)
    value_read v = (readable.stored i l).2 ∙ (sym v ∙ sym (readable.stored j m).2)

    pub value_written : value_of (operation_at w i) ≡ value_of (operation_at w j) → entry_value w j ≡ entry_value w i
    value_written v = sym (readable.stored j m).2 ∙ (sym v ∙ (readable.stored i l).2)

  pub entry_read : (i : ℕ) → i < word w 0 → (entry : Entry) → entry.transaction ≡ entry_transaction w i
      → entry.object ≡ entry_object w i → entry.number ≡ entry_number w i → EntryRead w i entry
  entry_read i l entry et eo en =
      record {
        of_transaction = et;
        of_object = eo;
        of_number = en;
        live = rw et (readable.transactions i l);
        within = rw eo (readable.objects i l);
        numbered = rw en (numbered i l);
      }
