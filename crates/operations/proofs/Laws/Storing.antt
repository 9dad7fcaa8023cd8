-- Arguments are stored once: what is stored fits, and is read back as it is.
use Rattle.std.specs.Prelude.{ℕ, zero, suc, ◌<◌, ◌≡◌, refl, true, ◌&&◌, ◌↔◌, List, [], ◌∷◌, map, eqb, get_or}
use Rattle.std.proofs.Common.{sym, subst, ◌∙◌, arith, eqb-true}
use Rattle.std.proofs.Math.Bool.{and-eq-true_iff}
use Rattle.std.proofs.Math.Option.{none, some, none-ne-some, some-injective}
use Rattle.operations.specs.Operations.{push, pop, top, set_insert, set_delete, member, table_insert, table_delete}
use Rattle.operations.specs.Operations.{lookup, size, modify, Operation, on_stack, on_set, on_table}
use Rattle.operations.specs.Operations.{reduce_key, numbered, stored, number_of, key_of, value_of, All, Reduced}
use Rattle.operations.specs.Operations.{StoredKey}

at_place : {A : Type 0} (P : A → Type 0) (l : List A) → All P l → (n : ℕ) (x : A) → get_or (map some l) n none ≡ some x
    → P x
at_place P [] a n x e = absurd (none-ne-some _ e)
at_place P (y ∷ l) a zero x e = let same : y ≡ x = cc in subst P same a.0
at_place P (y ∷ l) a (suc n) x e = at_place P l a.1 n x e

-- A reduction that changes nothing the second time, and keeps the key 0 of an operation without one.
module _ (reduce : ℕ → ℕ) (once : (k : ℕ) → Reduced reduce (reduce k)) (keeps-zero : Reduced reduce 0) where
  all_stored : (k v : ℕ) → All (StoredKey reduce) (numbered reduce k v)
  all_stored k v =
      (tt, (tt, (tt, (once k, (once k, (once k, (once k, (once k, (once k, (keeps-zero, (once k, tt)))))))))))

  pub stored_reduced : (number k v : ℕ) (o : Operation) → stored reduce number k v ≡ some o → StoredKey reduce o
  stored_reduced zero k v o e = absurd (none-ne-some _ e)
  stored_reduced (suc n) k v o e = at_place (StoredKey reduce) (numbered reduce k v) (all_stored k v) n o e

pub reduced_once : (k : ℕ) → Reduced reduce_key (reduce_key k)
unfolding reduce_key
reduced_once k = omega arith

pub reduced_below : (k : ℕ) → (k < 16_777_216) ↔ Reduced reduce_key k
unfolding reduce_key
reduced_below k = (λ l. omega arith, λ e. omega arith)

-- An operation is read back from the number, key and value that are stored for it.
pub read_back : (o : Operation) → stored (λ k. k) (number_of o) (key_of o) (value_of o) ≡ some o
read_back (on_stack (push x)) = refl
read_back (on_stack pop) = refl
read_back (on_stack top) = refl
read_back (on_set (set_insert k)) = refl
read_back (on_set (set_delete k)) = refl
read_back (on_set (member k)) = refl
read_back (on_table (table_insert k v)) = refl
read_back (on_table (table_delete k)) = refl
read_back (on_table (lookup k)) = refl
read_back (on_table size) = refl
read_back (on_table (modify k v)) = refl

-- It is the one that its number names,
pub named : (o q : Operation) (number : ℕ) → eqb (number_of o) number ≡ true
    → stored (λ k. k) number (key_of o) (value_of o) ≡ some q → q ≡ o
named o q number e known =
    some-injective q o (sym known ∙ (rw (eqb-true (number_of o) number e) at (read_back o)))

-- and one with another that has the same number, key and value.
pub one_operation : (o p : Operation)
    → eqb (number_of o) (number_of p) && (eqb (key_of o) (key_of p) && eqb (value_of o) (value_of p)) ≡ true → o ≡ p
one_operation o p e =
    let (number, rest) = (and-eq-true_iff (eqb (number_of o) (number_of p)) _).0 e in
    let (key, value) = (and-eq-true_iff (eqb (key_of o) (key_of p)) _).0 rest in
    some-injective o p
    (sym (read_back o)
    ∙ (rw (
      eqb-true (number_of o) (number_of p) number,
      eqb-true (key_of o) (key_of p) key,
      eqb-true (value_of o) (value_of p) value,
    ) (read_back p)))
