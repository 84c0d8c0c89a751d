-- What makes a type a payload kind, and the session result as one.
use Rattle.std.specs.Prelude.{◌≡◌, Bool, true, ◌&&◌, ◌↔◌, IsTrue, ◌==◌, refl}
use Rattle.std.proofs.Common.{sym, ◌∙◌, arith}
use Rattle.std.proofs.lemmas.Bool.Decides.{nat_tests}
use Rattle.floor.specs.declared.session_result.SessionResult.{SessionResult}

-- a test of likeness is an equivalence
pub record Equivalence {P : Type 0} (alike : P → P → Bool) : Type 0 where
  pub reflexive : (a : P) → alike a a ≡ true
  pub symmetric : (a b : P) → alike a b ≡ true → alike b a ≡ true
  pub transitive : (a b c : P) → alike a b ≡ true → alike b c ≡ true → alike a c ≡ true

-- a test that tells whether two values have the same key is an equivalence
pub by_key : {P K : Type 0} (alike : P → P → Bool) (key : P → K) → ((a b : P) → IsTrue (alike a b) ↔ (key a ≡ key b)) → Equivalence alike
by_key alike key told = record {
  reflexive = λ a. (told a a).1 refl;
  symmetric = λ a b h. (told b a).1 (sym ((told a b).0 h));
  transitive = λ a b c h k. (told a c).1 ((told a b).0 h ∙ (told b c).0 k);
}

abbrev pub same_result : SessionResult → SessionResult → Bool
same_result a b = a.metres == b.metres && (a.tenths == b.tenths && a.strokes == b.strokes)

-- two results are alike exactly if they are equal
pub same_result_decides : (a b : SessionResult) → IsTrue (same_result a b) ↔ (a ≡ b)
same_result_decides a b = grind (arith, nat_tests)

pub same_result_equivalence : Equivalence same_result
same_result_equivalence = by_key same_result (λ r. r) same_result_decides
