-- How rows of owners bar an entry.
use Rattle.std.specs.Prelude.{ℕ, ◌+◌, ◌<◌, ◌≡◌, refl, false, ◌&&◌, not, List, [], eqb, get_or}
use Rattle.std.proofs.Common.{sym, ap, ◌∙◌, arith, eq-eqb, ne_eqb}
use Rattle.operations.specs.Operations.{Kind, key_of, value_of}
use Rattle.operations.specs.PairRules.{Rule, never, apart, equal, agreeing, Rules, allows, rule_at, related}
use Rattle.operations.specs.PairRules.{kind_numbered, recoverable_rules, commuting_rules}
use Rattle.bitset.specs.Bitset.{has, Members, Holds}
use Rattle.bitset.specs.Laws.{holds_same, holds_without}
use Rattle.pairs.specs.Pairs.{first_of, column_of, width_of}
use Rattle.store.specs.Layout.{word, operation_at}
use Rattle.representatives.specs.Representatives.{entry_transaction, entry_object, entry_number, Readable}
use Rattle.representatives.specs.Representatives.{Representative}
use Rattle.dependencies.specs.declared.Blockers.{Blockers}
use Rattle.dependencies.specs.declared.Entry.{Entry}
use Rattle.dependencies.specs.declared.Rows.{Rows}
use Rattle.dependencies.specs.Dependencies.{Bars, Barred, WithoutBoth, key_column, Picked, PickedBoth, EntryRead}
use Rattle.dependencies.specs.Dependencies.{OwnersRow, ObjectRow, KeyRow, Gathered, Others}
use Rattle.dependencies.specs.Laws.Numbers.{ranged, picked_of, picked_from}
use Rattle.dependencies.specs.Laws.Columns.{Told, recoverable_told, commuting_told, apart_shared, equal_pushes}
use Rattle.dependencies.specs.Laws.Columns.{agreeing_modifies, column_other}
use Rattle.dependencies.specs.Laws.Reading.{numbered, rule_read, column_below, column_read, key_read, key_written}
use Rattle.dependencies.specs.Laws.Reading.{value_read, value_written}
use Rattle.dependencies.specs.Laws.Others.{at_column, at_key_column, row_alike}

module _ (w : List ℕ) (readable : Readable w) where
  module _ (i : ℕ) (l : i < word w 0) (whole same : List ℕ) (others : ℕ)
      (row : OwnersRow 6 whole (ObjectRow w (entry_object w i) i)) (key_row : OwnersRow 4 same (KeyRow w i i))
      (other-owners : Others w i others) (rules : Kind → Rules) (told : Told rules) where
    abbrev number : ℕ
    number = entry_number w i

    abbrev Columns : ℕ → Type 0
    Columns b = Picked rules number whole same others (width_of number) b

    abbrev rule_of : ℕ → Rule
    rule_of m = rule_at (rules (kind_numbered number)) (column_of number) m

    abbrev key_column_of : ℕ → ℕ
    key_column_of m = key_column (first_of number + m)

    own_column : column_of number < width_of number
    own_column = column_below w readable i i l l refl

    own_read : first_of number + column_of number ≡ number
    own_read = column_read w readable i i l l refl

    shared : (m n : ℕ) → m < width_of number → n < width_of number → rule_of m ≡ apart
        → (key_column_of m < 4) × (key_column_of n ≡ key_column_of m → rule_of n ≡ apart)
    shared m n k h =
        apart_shared rules told (kind_numbered number) (column_of number) m (omega (arith, own_column)) (omega arith) n
        (omega arith)

    pushes : (m : ℕ) → m < width_of number → rule_of m ≡ equal → (number ≡ 1) × (first_of number + m ≡ 1)
    pushes m k e =
        let both = equal_pushes rules told (kind_numbered number) (column_of number) m (omega (arith, own_column))
        (omega arith) e in
        (sym own_read ∙ both.0, both.1)

    modifies : (m : ℕ) → m < width_of number → rule_of m ≡ agreeing → (number ≡ 11) × (first_of number + m ≡ 11)
    modifies m k e =
        let both = agreeing_modifies rules told (kind_numbered number) (column_of number) m (omega (arith, own_column))
        (omega arith) e in
        (sym own_read ∙ both.0, both.1)

    -- An earlier entry of the object whose rule says no.
    refused : (b j : ℕ) (r : Rule) → (b ≡ entry_transaction w i → ⊥) → j < i → entry_object w j ≡ entry_object w i
        → entry_transaction w j ≡ b → rule_of (column_of (entry_number w j)) ≡ r
        → allows r (operation_at w i) (operation_at w j) ≡ false → Bars (related rules) w i b
    refused b j r other n o t e f =
        let rule = rule_read w readable i j l (omega arith) o rules ∙ e in (
          j,
          n,
          (
            t,
            record {
              object = o;
              other = λ q. other (sym t ∙ q);
              fails = ap (λ (x : Rule). allows x (operation_at w i) (operation_at w j)) rule ∙ f;
            },
          ),
        )

    picked_bars : (b : ℕ) → Columns b × (b ≡ entry_transaction w i → ⊥) → Bars (related rules) w i b
    picked_bars b ((m, n, h), other) =
        picked_from (get_or whole m 0) (get_or same (key_column_of m) 0) others b (rule_of m) h
        (λ e on_object_lem.
        let within = ranged number (numbered w readable i l) in
        let (j, k, (o, c, t)) = (at_column w readable i l whole row m (omega (
          arith,
          within.width,
        )) b).0 on_object_lem in
        refused b j never other k o t (ap rule_of c ∙ e) refl)
        (λ e by_key.
        let (j, k, (((o, key), tells), c, t)) =
        (at_key_column w readable i l same key_row (key_column_of m) (column_other (first_of number + m)) b).0 by_key in
        let g : j < word w 0 = omega arith in
        let rule = (shared m (column_of (entry_number w j)) n (column_below w readable i j l g o) e).1 in
        refused b j apart other k o t (rule (ap key_column (column_read w readable i j l g o) ∙ c))
        (rw (eq-eqb (key_of (operation_at w i)) (key_of (operation_at w j)) (key_read w readable i j l g o key))))
        (λ e by-item.
        let (is, at) = pushes m n e in
        let (j, k, ((o, push), differs, t)) = (other-owners.pushes is b).0 by-item in
        let g : j < word w 0 = omega arith in
        let column : column_of (entry_number w j) ≡ m = omega (arith, column_read w readable i j l g o, push, at) in
        refused b j equal other k o t (ap rule_of column ∙ e)
        (ne_eqb (key_of (operation_at w i)) (key_of (operation_at w j))
        (λ q. differs (key_written w readable i j l g o q))))
        (λ e by_value.
        let (is, at) = modifies m n e in
        let (j, k, (((o, key), modify), differs, t)) = (other-owners.modifies is b).0 by_value in
        let g : j < word w 0 = omega arith in
        let column : column_of (entry_number w j) ≡ m = omega (arith, column_read w readable i j l g o, modify, at) in
        refused b j agreeing other k o t (ap rule_of column ∙ e)
        (rw (
          eq-eqb (key_of (operation_at w i)) (key_of (operation_at w j)) (key_read w readable i j l g o key),
          ne_eqb (value_of (operation_at w i)) (value_of (operation_at w j))
              (λ q. differs (value_written w readable i j l g o q)),
        )))

    bars_picked : (b : ℕ) → Bars (related rules) w i b → Columns b × (b ≡ entry_transaction w i → ⊥)
    bars_picked b (j, n, (t, f)) =
        let k : j < word w 0 = omega arith in
        let o = f.object in
        let m = column_of (entry_number w j) in
        let within = ranged number (numbered w readable i l) in
        let inside = column_below w readable i j l k o in
        let column = column_read w readable i j l k o in
        let said = ap (λ (x : Rule). allows x (operation_at w i) (operation_at w j))
        (sym (rule_read w readable i j l k o rules)) in (
          (
            m,
            inside,
            picked_of (get_or whole m 0) (get_or same (key_column_of m) 0) others b (operation_at w i)
                (operation_at w j)
                (rule_of m) (said ∙ f.fails)
                ((at_column w readable i l whole row m (omega (arith, inside, within.width)) b).1 (j, n, (o, refl, t)))
                (λ e key.
                (at_key_column w readable i l same key_row (key_column_of m) (column_other (first_of number + m)) b).1 (
                  j,
                  n,
                  (
                    ((o, key_written w readable i j l k o key), rw column at (shared m m inside inside e).0),
                    ap key_column (sym column),
                    t,
                  ),
                ))
                (λ e differs.
                let (is, at) = pushes m inside e in
                (other-owners.pushes is b).1
                (j, n, ((o, sym column ∙ at), λ q. differs (key_read w readable i j l k o q), t)))
                (λ e key differs.
                let (is, at) = modifies m inside e in
                (other-owners.modifies is b).1 (
                  j,
                  n,
                  (
                    ((o, key_written w readable i j l k o key), sym column ∙ at),
                    λ q. differs (value_read w readable i j l k o q),
                    t,
                  ),
                )),
          ),
          λ q. f.other (t ∙ q),
        )

    bars : (s u : ℕ) → Holds s Columns → Members u (λ b. has s b && not (eqb b (entry_transaction w i)))
        → Holds u (Bars (related rules) w i)
    bars s u h without =
        holds_same (λ b. Columns b × (b ≡ entry_transaction w i → ⊥)) (Bars (related rules) w i) u
        (holds_without Columns s (entry_transaction w i) u h without)
        (λ b. (picked_bars b, bars_picked b))

  pub barred : (i : ℕ) → i < word w 0 → (rows : Rows) → Gathered w i rows → (entry : Entry) (p others : ℕ)
      (found left : Blockers) → EntryRead w i entry → Representative w i p → Others w i others
      → PickedBoth entry.number (get_or rows.objects entry.object []) (get_or rows.keys p []) others found
      → WithoutBoth entry.transaction found left → Barred w i left
  barred i l rows g entry p others found left read by other-owners chosen without =
      let barring = bars i l (get_or rows.objects (entry_object w i) []) (get_or rows.keys p []) others
      (g.on_object (entry_object w i) (readable.objects i l))
      (row_alike w readable i l rows g p (omega (arith, by.within, readable.entries)) by) other-owners in
      record {
        unrecoverables = barring recoverable_rules recoverable_told found.unrecoverable left.unrecoverable
            (rw (read.of_object, read.of_number) at chosen.unrecoverables)
            (rw read.of_transaction at without.0);
        conflictings = barring commuting_rules commuting_told found.conflicting left.conflicting
            (rw (read.of_object, read.of_number) at chosen.conflictings)
            (rw read.of_transaction at without.1);
      }
