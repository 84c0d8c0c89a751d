-- The tables of casts and of deliveries have at most one entry for each console: reading them, and putting an entry.
use Rattle.std.proofs.Common.{◌≡◌, ℕ, true, false, List, length, get_or, set, is_some, Some, None, Option, unwrap_or, sym, refl, ap, ◌∙◌, subst}
use Rattle.std.proofs.lemmas.Option.{none-some}
use Rattle.std.proofs.lemmas.Bool.{eq-eqb, eqb-true, false≢true, true≢false}
use Rattle.caster.specs.Meanings.{is}
use Rattle.plain_session.specs.declared.session_table.SessionTable.{SessionTable}
use Rattle.plain_tables.specs.declared.plan.Plan.{Plan}
use Rattle.plain_model.specs.Invariant.{GoodTable}
use Rattle.plain_model.proofs.AfterWrites.{by_place}

-- ---- an entry

-- An entry is of the number that stands there.
pub is_from : (o : Option ℕ) (v : ℕ) → o ≡ Some v → is o v ≡ true
is_from o v e = ap (λ (x : Option ℕ). is x v) e ∙ eq-eqb v v refl

pub from_is : (o : Option ℕ) (v : ℕ) → is o v ≡ true → o ≡ Some v
from_is None v e = absurd (false≢true e)
from_is (Some u) v e = ap Some (eqb-true u v e)

pub no_entry : (o : Option ℕ) → is_some o ≡ false → o ≡ None
no_entry None e = refl
no_entry (Some v) e = absurd (true≢false e)

-- ---- an entry is put

module _ (xs : List (Option ℕ)) (i y : ℕ) where
  -- What holds of the new entry and held of all entries holds of all entries.
  pub put_all :
      (P : ℕ → ℕ → Type 0) → P i y → ((k x : ℕ) → get_or xs k None ≡ Some x → P k x) → (k x : ℕ)
      → get_or (set xs i (Some y)) k None ≡ Some x → P k x
  put_all P new old =
      by_place (λ k o. (x : ℕ) → o ≡ Some x → P k x) xs i (Some y) None (λ x e. subst (P i) (ap (λ o. unwrap_or o y) e) new) old

  -- An entry stays, if the place was free.
  pub put_keeps :
      get_or xs i None ≡ None → (k x : ℕ) → get_or xs k None ≡ Some x → get_or (set xs i (Some y)) k None ≡ Some x
  put_keeps free =
      by_place (λ k o. (x : ℕ) → get_or xs k None ≡ Some x → o ≡ Some x) xs i (Some y) None
      (λ x e. absurd (none-some x (sym free ∙ e))) (λ k x e. e)

  -- A place with an entry keeps one.
  pub put_some : (k : ℕ) → is_some (get_or xs k None) ≡ true → is_some (get_or (set xs i (Some y)) k None) ≡ true
  put_some = by_place (λ k o. is_some (get_or xs k None) ≡ true → is_some o ≡ true) xs i (Some y) None (λ _. refl) (λ k e. e)

-- Nothing else in the table of a session rests on its casts and deliveries.
pub entry_table :
    (p : Plan) (t : SessionTable) (casts deliveries : List (Option ℕ)) → GoodTable p t → length casts ≡ 32 → length deliveries ≡ 32
    → GoodTable p (record { rows = t.rows; voters = t.voters; casts = casts; deliveries = deliveries; numbers = t.numbers })
entry_table p t casts deliveries old cast_places delivery_places =
    record {
      row_places = old.row_places;
      cast_places = cast_places;
      delivery_places = delivery_places;
      rows_sized = old.rows_sized;
      rows = old.rows;
      number_places = old.number_places;
      numbers_noted = old.numbers_noted;
    }
