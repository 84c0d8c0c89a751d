-- The laws of casters, on what they mean. docs/casters.md has them in words.
use Rattle.std.specs.Prelude.{◌≡◌, ℕ, ◌*◌, ◌<◌, ◌≤◌, true, not, is_some, is_ok, Some, None, Ok, Err, Option}
use Rattle.std.specs.Result.{result_err}
use Rattle.floor.specs.Refusals.{first_found}
use Rattle.floor.specs.declared.refusal.Refusal.{Refusal}
use Rattle.caster.specs.declared.delivery.Delivery.{Delivery}
use Rattle.caster.specs.Floors.{InRange, honest, honestly}
use Rattle.caster.specs.Meanings.{Meaning, Numbers, Answered, is, put, cast_checks}

-- ---- one state

-- So many honest consoles have the number v in session s.
abbrev pub with_number : Meaning → Numbers → (s v : ℕ) → ℕ
with_number m numbers s v = honestly m.floor (λ c. is (numbers c s) v)

-- No honest console has cast a number other than v in session s.
abbrev pub OnlyCast : Meaning → (s v : ℕ) → Type 0
OnlyCast m s v = (c u : ℕ) → honest m.floor c ≡ true → m.casts c s ≡ Some u → u ≡ v

-- An honest console of the floor, one of its sessions, and a number in range.
pub record Placed (m : Meaning) (c s v : ℕ) : Type 0 where
  pub console : honest m.floor c ≡ true
  pub session : s < m.floor.sessions
  pub number : v < m.floor.capacity

-- What is true of a caster at any time.
pub record Sound (m : Meaning) : Type 0 where
  pub in_range : InRange m.floor
  -- only honest consoles cast and deliver, in the floor's sessions, and numbers in range
  pub cast_placed : (c s v : ℕ) → m.casts c s ≡ Some v → Placed m c s v
  pub delivery_placed : (c s v : ℕ) → m.deliveries c s ≡ Some v → Placed m c s v
  pub few_steps : m.steps ≤ 65536 * m.floor.sessions
  pub positive : (1 ≤ m.figures.backing) × (1 ≤ m.figures.support) × (1 ≤ m.figures.reach)
  -- a number that is delivered was cast by as many as the backing
  pub backed : (c s v : ℕ) → m.deliveries c s ≡ Some v → m.figures.backing ≤ with_number m m.casts s v
  -- with voice, one number is delivered in a session
  pub voiced :
      m.figures.voice ≡ true → (b c s u v : ℕ) → m.deliveries b s ≡ Some u → m.deliveries c s ≡ Some v → u ≡ v
  -- at rest, a number that as many as the support cast, and nobody another, is delivered by as many as the reach
  pub supported :
      m.quiet ≡ true → (s v : ℕ) → m.figures.support ≤ with_number m m.casts s v → OnlyCast m s v
      → m.figures.reach ≤ with_number m m.deliveries s v
  -- at rest, a number that one delivered, while nobody cast another, is delivered by as many as the reach
  pub spread :
      m.quiet ≡ true → (c s v : ℕ) → m.deliveries c s ≡ Some v → OnlyCast m s v
      → m.figures.reach ≤ with_number m m.deliveries s v

-- ---- one call

-- The delivery that is answered is new, and it is the only one.
abbrev pub Adds : Numbers → Option Delivery → Numbers → Type 0
Adds before None after = (c s : ℕ) → after c s ≡ before c s
Adds before (Some new) after =
    (before new.console new.session ≡ None)
    × ((c s : ℕ) → after c s ≡ put before new.console new.session new.number c s)

-- An accepted call leaves these casts, adds the delivery that it answers and no other, raises no steps, and changes no figures.
pub record Moves (before : Meaning) (casts : Numbers) (added : Option Delivery) (after : Meaning) : Type 0 where
  pub recorded : (c s : ℕ) → after.casts c s ≡ casts c s
  pub adds : Adds before.deliveries added after.deliveries
  pub falling : after.steps ≤ before.steps
  pub same_floor : after.floor ≡ before.floor
  pub same_figures : after.figures ≡ before.figures

-- A delivery that a cast adds is the casting console's, in that session.
abbrev pub There : (console session : ℕ) → Option Delivery → Type 0
There console session None = Unit {0}
There console session (Some new) = (new.console ≡ console) × (new.session ≡ session)

-- ---- all states and all calls

pub record Laws {S E : Type 0} (meaning : S → Meaning)
    (casted : S → ℕ → ℕ → ℕ → Answered → S → Type 0)
    (stepped : S → E → Answered → S → Type 0)
    (offered : S → Option E) : Type 0 where
  -- a refused call changes nothing
  pub cast_kept : (before after : S) (c s v : ℕ) (e : Refusal) → casted before c s v (Err e) after → after ≡ before
  pub step_kept : (before after : S) (event : E) (e : Refusal) → stepped before event (Err e) after → after ≡ before
  -- a cast is refused for a number out of range, a Byzantine console, or a console that has cast there, and for nothing else
  pub cast_refused :
      (before after : S) (c s v : ℕ) (r : Answered) → casted before c s v r after
      → result_err r ≡ first_found (cast_checks (meaning before) c s v)
  pub cast_recorded :
      (before after : S) (c s v : ℕ) (added : Option Delivery) → casted before c s v (Ok added) after
      → Moves (meaning before) (put (meaning before).casts c s v) added (meaning after) × There c s added
  pub step_recorded :
      (before after : S) (event : E) (added : Option Delivery) → stepped before event (Ok added) after
      → Moves (meaning before) (meaning before).casts added (meaning after)
  -- the offered step is accepted and lowers the steps left
  pub offer_taken :
      (before after : S) (event : E) (r : Answered) → offered before ≡ Some event → stepped before event r after
      → (is_ok r ≡ true) × ((meaning after).steps < (meaning before).steps)
  -- nothing is offered exactly when it is quiet
  pub offering : (state : S) → is_some (offered state) ≡ not (meaning state).quiet
  pub sound : (state : S) → Sound (meaning state)

-- A relation that lasts over any number of calls.
pub record Lasting {S : Type 0} (R : S → S → Type 0) : Type 0 where
  pub same : (a : S) → R a a
  pub onward : (a b c : S) → R a b → R b c → R a c
