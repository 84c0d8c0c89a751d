-- Whether a session is listed, as the library's search tells it.
use Rattle.std.proofs.Common.{◌≡◌, List, refl}
use Rattle.std.specs.List.{list_any}
use Rattle.floor.specs.Sessions.{same_session, listed}
use Rattle.floor.specs.declared.session.Session.{Session}

pub any_listed : (s : Session) (xs : List Session) → list_any (λ x. same_session x s) xs ≡ listed s xs
any_listed s xs = refl
