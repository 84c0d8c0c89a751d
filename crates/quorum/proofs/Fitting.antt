-- Two sets of figures fit exactly if no part of the fit is answered to fail.
use Rattle.std.proofs.Common.{◌≡◌, ℕ, None, arith}
use Rattle.std.proofs.lemmas.Bool.{le-leb}
use Rattle.std.proofs.lemmas.Bool.Decides.{nat_tests}
use Rattle.quorum.specs.declared.figures.Figures.{Figures}
use Rattle.quorum.specs.Fit.{Fits, misfit_of}

pub fits_unless : (echo ready : Figures) (d h : ℕ) → misfit_of echo ready d h ≡ None → Fits echo ready d h
fits_unless echo ready d h e =
    record { echo_voice = grind (arith, nat_tests); echo_support = grind (arith, nat_tests); ready_support = grind (arith, nat_tests) }

pub no_misfit : (echo ready : Figures) (d h : ℕ) → Fits echo ready d h → misfit_of echo ready d h ≡ None
no_misfit echo ready d h f = rw (f.echo_voice, le-leb _ _ f.echo_support, le-leb _ _ f.ready_support)
