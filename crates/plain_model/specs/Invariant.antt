-- What is true of the tables of a plain caster after any calls. docs/proofs.md tells why the laws follow.
use Rattle.std.specs.Prelude.{◌≡◌, ℕ, ◌^◌, ◌<◌, ◌≤◌, true, false, not, ◌⊎◌, length, is_some, Some, ◌==◌, count_ones}
use Rattle.sets.specs.Members.{has}
use Rattle.plain_session.specs.Protocol.{heard_count}
use Rattle.plain_session.specs.Rows.{pending_from, lost_from, busy_row}
use Rattle.plain_session.specs.Sessions.{empty_session, row_of, cast_by, delivered_by}
use Rattle.plain_session.specs.declared.row.Row.{Row}
use Rattle.plain_session.specs.declared.session_table.SessionTable.{SessionTable}
use Rattle.plain_tables.specs.Tables.{session_of, busy_session}
use Rattle.plain_tables.specs.declared.plan.Plan.{Plan}
use Rattle.plain_tables.specs.declared.tables.Tables.{Tables}
use Rattle.plain_model.specs.Plans.{SoundPlan, is_honest, backing}
use Rattle.plain_model.specs.Steps.{steps_left}
use Rattle.plain_model.specs.Views.{endorsed, heard, pending, lost, voted, casters}

-- The tables of a row have a place for each console.
pub record RowSized (r : Row) : Type 0 where
  pub heard_places : length r.heard ≡ 32
  pub pending_places : length r.pending ≡ 32
  pub lost_places : length r.lost ≡ 32

-- The copies of one number's endorsements.
pub record GoodRow (p : Plan) (number : ℕ) (r : Row) : Type 0 where
  -- only honest consoles are noted as endorsers, and of numbers in range
  pub endorsers : (c : ℕ) → endorsed r c ≡ true → (is_honest p c ≡ true) × (number < p.floor.capacity)
  pub heard_within : (f c : ℕ) → heard r f c ≡ true → f < p.floor.consoles
  -- a copy that arrived, is under way or was lost was sent, and to an honest console
  pub heard_sent : (f c : ℕ) → is_honest p f ≡ true → heard r f c ≡ true → endorsed r f ≡ true
  pub pending_sent : (f c : ℕ) → pending r f c ≡ true → (endorsed r f ≡ true) × (is_honest p c ≡ true)
  pub lost_sent : (f c : ℕ) → lost r f c ≡ true → (endorsed r f ≡ true) × (is_honest p c ≡ true)
  -- a copy under way has neither arrived nor been lost
  pub pending_only : (f c : ℕ) → pending r f c ≡ true → (heard r f c ≡ false) × (lost r f c ≡ false)
  -- a copy that was sent, is not under way and was not lost has arrived
  pub arrived :
      (f c : ℕ) → endorsed r f ≡ true → is_honest p c ≡ true → pending r f c ≡ false → lost r f c ≡ false → heard r f c ≡ true
  pub few_lost : (f : ℕ) → count_ones (lost_from r f).mask ≤ p.floor.lost
  -- the senders with copies under way are noted
  pub sender_places : r.senders.places.mask < 2 ^ 32
  pub senders_noted : (f : ℕ) → has r.senders.places.mask f ≡ not ((pending_from r f).mask == 0)

-- The table of a session: it has its places, and its rows are in order.
pub record GoodTable (p : Plan) (t : SessionTable) : Type 0 where
  pub row_places : length t.rows ≡ 8
  pub cast_places : length t.casts ≡ 32
  pub delivery_places : length t.deliveries ≡ 32
  pub rows_sized : (v : ℕ) → v < 8 → RowSized (row_of t v)
  pub rows : (v : ℕ) → GoodRow p v (row_of t v)
  -- the numbers with copies under way are noted
  pub number_places : t.numbers.places.mask < 2 ^ 32
  pub numbers_noted : (v : ℕ) → has t.numbers.places.mask v ≡ busy_row (row_of t v)

-- Who endorsed what in a session, and why.
pub record Votes (p : Plan) (t : SessionTable) : Type 0 where
  -- who endorsed a number cast it, or enough honest consoles did
  pub origin : (v c : ℕ) → endorsed (row_of t v) c ≡ true → (cast_by t c ≡ Some v) ⊎ (backing p ≤ casters p t v)
  -- with single, a console endorses one number
  pub once :
      p.setting.thresholds.single ≡ true → (u v c : ℕ) → endorsed (row_of t u) c ≡ true → endorsed (row_of t v) c ≡ true → u ≡ v
  -- the consoles that endorsed some number are noted
  pub voters : (v c : ℕ) → endorsed (row_of t v) c ≡ true → voted t c ≡ true
  pub voted_some : (c : ℕ) → voted t c ≡ true → (v : ℕ) × (endorsed (row_of t v) c ≡ true)

-- A cast in order: the console is honest, the number is in range, and the console has endorsed some number.
abbrev pub RightCast : Plan → SessionTable → (console number : ℕ) → Type 0
RightCast p t c v = (is_honest p c ≡ true) × (v < p.floor.capacity) × (voted t c ≡ true)

-- A delivery in order: the console is honest, the number is in range, and the console heard it often enough.
abbrev pub RightDelivery : Plan → SessionTable → (console number : ℕ) → Type 0
RightDelivery p t c v = (is_honest p c ≡ true) × (v < p.floor.capacity) × (p.setting.thresholds.deliver ≤ heard_count t v c)

-- What is in order in a session after each write, also while an endorsement is arriving.
pub record Steady (p : Plan) (t : SessionTable) : Type 0 where
  pub table : GoodTable p t
  pub votes : Votes p t
  -- who cast has endorsed some number
  pub cast_voted : (c v : ℕ) → cast_by t c ≡ Some v → RightCast p t c v
  -- who delivered a number heard it often enough
  pub delivered_heard : (c v : ℕ) → delivered_by t c ≡ Some v → RightDelivery p t c v

-- The console forwards as it should: if it heard the number often enough, it has endorsed it, or with single another.
abbrev pub Forwards : Plan → SessionTable → (number console : ℕ) → Type 0
Forwards p t v c =
    is_honest p c ≡ true → p.setting.thresholds.forward ≤ heard_count t v c
    → (endorsed (row_of t v) c ≡ true) ⊎ ((p.setting.thresholds.single ≡ true) × (voted t c ≡ true))

-- The console delivers as it should: if it heard the number often enough, it has delivered some number.
abbrev pub Finishes : Plan → SessionTable → (number console : ℕ) → Type 0
Finishes p t v c = is_honest p c ≡ true → p.setting.thresholds.deliver ≤ heard_count t v c → is_some (delivered_by t c) ≡ true

-- One session.
pub record GoodSession (p : Plan) (t : SessionTable) : Type 0 where
  pub steady : Steady p t
  -- who heard a number often enough has endorsed it, or with single another
  pub forwarding : (v c : ℕ) → Forwards p t v c
  -- who heard a number often enough has delivered
  pub heard_delivered : (v c : ℕ) → Finishes p t v c

-- All sessions.
pub record Good (p : Plan) (x : Tables) : Type 0 where
  pub plan : SoundPlan p
  pub places : length x.sessions ≡ 16
  pub sessions : (s : ℕ) → s < 16 → GoodSession p (session_of x s)
  -- nothing happens in a session that the floor has not
  pub unused : (s : ℕ) → s < 16 → p.floor.sessions ≤ s → session_of x s ≡ empty_session
  -- the sessions with copies under way are noted
  pub busy_places : x.busy.places.mask < 2 ^ 32
  pub sessions_noted : (s : ℕ) → has x.busy.places.mask s ≡ busy_session (session_of x s)
  -- the steps left are kept
  pub counted : x.left ≡ steps_left p x
