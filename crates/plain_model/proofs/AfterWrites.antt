-- What a table and an agenda tell after a write.
use Rattle.std.proofs.Common.{◌≡◌, ℕ, ◌^◌, ◌<◌, ◌≤◌, Bool, true, false, cond, eqb, List, length, get_or, set, sym, refl, ap, ◌∙◌, subst, ⊎_elim, arith}
use Rattle.std.proofs.lemmas.List.{get_or-set_same, get_or-set_other, set_past}
use Rattle.std.proofs.lemmas.Bool.{cases_eq, cases_lt, eqb-false, eqb-true}
use Rattle.std.proofs.lemmas.Bool.Decides.{nat_tests}
use Rattle.sets.proofs.Operations.{has_without_member, with_member_lt}
use Rattle.sets.specs.Members.{has, without_member}
use Rattle.plain_session.specs.Agendas.{noted}
use Rattle.plain_session.specs.declared.agenda.Agenda.{Agenda}
use Rattle.plain_model.proofs.SetFacts.{joining}

-- What holds of the new entry and held of all entries holds of all entries after the write.
pub by_place :
    {A : Type 0} (P : ℕ → A → Type 0) (xs : List A) (i : ℕ) (y d : A) → P i y → ((k : ℕ) → P k (get_or xs k d))
    → (k : ℕ) → P k (get_or (set xs i y) k d)
by_place {A} P xs i y d new old k =
    ⊎_elim
    (λ same. ⊎_elim
    (λ here. subst (λ (j : ℕ). P j (get_or (set xs i y) j d)) (sym same) (subst (P i) (sym (get_or-set_same xs i y d here)) new))
    (λ past. subst (λ (l : List A). P k (get_or l k d)) (sym (set_past xs i y past)) (old k))
    (cases_lt i (length xs)))
    (λ other. subst (P k) (sym (get_or-set_other xs i k y d other)) (old k))
    (cases_eq k i)

-- A table after a write to one of its places.
pub entry_after :
    {A : Type 0} (xs : List A) (i k : ℕ) (y d : A) → i < length xs
    → get_or (set xs i y) k d ≡ cond (eqb k i) y (get_or xs k d)
entry_after {A} xs i k y d here = at (eqb k i) refl
  where
    at : (b : Bool) → eqb k i ≡ b → get_or (set xs i y) k d ≡ cond b y (get_or xs k d)
    at true e = ap (λ (j : ℕ). get_or (set xs i y) j d) (eqb-true k i e) ∙ get_or-set_same xs i y d here
    at false e = get_or-set_other xs i k y d (eqb-false k i e)

-- What a function tells of a choice is the choice between what it tells.
pub of_cond : {A B : Type 0} (F : A → B) (b : Bool) (x y : A) → F (cond b x y) ≡ cond b (F x) (F y)
of_cond F true x y = refl
of_cond F false x y = refl

-- What a function tells of an entry, after a write.
pub told_after :
    {A B : Type 0} (F : A → B) (xs : List A) (i k : ℕ) (y d : A) → i < length xs
    → F (get_or (set xs i y) k d) ≡ cond (eqb k i) (F y) (F (get_or xs k d))
told_after F xs i k y d here = ap F (entry_after xs i k y d here) ∙ of_cond F (eqb k i) y (get_or xs k d)

-- ---- agendas

without_member_le : (m k : ℕ) → without_member m k ≤ m
unfolding without_member
without_member_le m k = omega arith

-- A place of an agenda is noted as it was told, and the others stay.
has_noted :
    (a : Agenda) (place : ℕ) (busy : Bool) → place < 32 → a.places.mask < 2 ^ 32
    → (j : ℕ) → has (noted a place busy).places.mask j ≡ cond (eqb j place) busy (has a.places.mask j)
has_noted a place true known fits j =
    joining a.places.mask place j known ∙ grind (arith, nat_tests)
has_noted a place false known fits j = has_without_member a.places.mask place j fits ∙ grind (arith, nat_tests)

-- It stays one of 32 places.
pub noted_fits :
    (a : Agenda) (place : ℕ) (busy : Bool) → place < 32 → a.places.mask < 2 ^ 32 → (noted a place busy).places.mask < 2 ^ 32
noted_fits a place true known fits = with_member_lt 32 a.places.mask place fits known
noted_fits a place false known fits = omega (arith, without_member_le a.places.mask place)

-- An agenda of the busy places of a table is one of the table after a write, once the place is noted.
pub noted_after :
    {A : Type 0} (busy : A → Bool) (a : Agenda) (xs : List A) (i : ℕ) (y d : A)
    → i < length xs → i < 32 → a.places.mask < 2 ^ 32
    → ((k : ℕ) → has a.places.mask k ≡ busy (get_or xs k d))
    → (k : ℕ) → has (noted a i (busy y)).places.mask k ≡ busy (get_or (set xs i y) k d)
noted_after busy a xs i y d here known fits old k =
    has_noted a i (busy y) known fits k ∙ rw (old k) (sym (told_after busy xs i k y d here))
