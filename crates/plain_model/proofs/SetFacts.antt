-- Facts about sets of consoles: one that a console joins, and one without members.
use Rattle.std.proofs.Common.{◌≡◌, ℕ, ◌<◌, ◌≤◌, true, false, ◌&&◌, ◌||◌, eqb, ltb, ◌⊎◌, sym, refl, ap, ◌∙◌, inl, inr, ⊎_elim, arith}
use lib.Count.{ones}
use Rattle.std.proofs.lemmas.Bool.{and_parts, eq-eqb, eqb-true, lt-ltb, or_cases, or_left, or_right}
use Rattle.sets.proofs.Bits.{has_zero}
use Rattle.sets.proofs.Operations.{has_with_member}
use Rattle.sets.proofs.Sizes.{subset_le}
use Rattle.sets.proofs.TwoMasks.{members_subset}
use Rattle.sets.specs.Members.{has, with_member}

-- A console joins a set.
pub joining : (m k j : ℕ) → k < 32 → has (with_member m k) j ≡ (has m j || eqb j k)
joining m k j known = has_with_member m k j ∙ rw (lt-ltb k 32 known) (grind arith)

-- It is a member then,
pub joined_here : (m k : ℕ) → k < 32 → has (with_member m k) k ≡ true
joined_here m k known = joining m k k known ∙ or_right (has m k) (eqb k k) (eq-eqb k k refl)

-- all members stay,
pub joined_keeps : (m k j : ℕ) → has m j ≡ true → has (with_member m k) j ≡ true
joined_keeps m k j e = has_with_member m k j ∙ or_left (has m j) (eqb j k && ltb k 32) e

-- nobody else becomes one,
pub joined_new : (m k j : ℕ) → has (with_member m k) j ≡ true → (has m j ≡ true) ⊎ (j ≡ k)
joined_new m k j e =
    ⊎_elim inl (λ new. inr (eqb-true j k (and_parts (eqb j k) (ltb k 32) new).0))
    (or_cases (has m j) (eqb j k && ltb k 32) (sym (has_with_member m k j) ∙ e))

-- and the members are no fewer.
pub joined_more : (m k : ℕ) → ones m ≤ ones (with_member m k)
joined_more m k = subset_le m (with_member m k) (members_subset m (with_member m k) (joined_keeps m k))

-- An empty set has no member.
pub no_member : (m k : ℕ) → m ≡ 0 → has m k ≡ false
no_member m k e = ap (λ (x : ℕ). has x k) e ∙ has_zero k
