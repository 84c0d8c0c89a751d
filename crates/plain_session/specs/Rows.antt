-- One number of a session: who endorsed it, whom that has reached, and which copies are under way or lost.
use Rattle.std.specs.Prelude.{ℕ, Bool, not, replicate, ◌==◌, slice_index_or, slice_set}
use Rattle.sets.specs.Members.{empty_set, with_console, without_console}
use Rattle.sets.specs.declared.console_set.ConsoleSet.{ConsoleSet}
use Rattle.plain_session.specs.declared.row.Row.{Row}
use Rattle.plain_session.specs.Agendas.{nothing, noted}

abbrev pub empty_row : Row
empty_row = record {
  endorsed = empty_set;
  heard = replicate 32 empty_set;
  pending = replicate 32 empty_set;
  lost = replicate 32 empty_set;
  senders = nothing;
}

-- the consoles whose endorsement has reached the receiver
abbrev pub heard_by : Row → (receiver : ℕ) → ConsoleSet
heard_by r receiver = slice_index_or r.heard receiver empty_set

-- the consoles to which the sender's copy is under way
abbrev pub pending_from : Row → (sender : ℕ) → ConsoleSet
pending_from r sender = slice_index_or r.pending sender empty_set

-- the consoles to which the sender's copy was lost
abbrev pub lost_from : Row → (sender : ℕ) → ConsoleSet
lost_from r sender = slice_index_or r.lost sender empty_set

-- some copy is under way
abbrev pub busy_row : Row → Bool
busy_row r = not (r.senders.places.mask == 0)

-- ---- one write

-- the sender's endorsement has reached the receiver
abbrev pub hear_row : Row → (sender receiver : ℕ) → Row
hear_row r sender receiver = record r { heard = slice_set r.heard receiver (with_console (heard_by r receiver) sender) }

-- the sender's copies are under way to these consoles
abbrev pub send_row : Row → (sender : ℕ) → (receivers : ConsoleSet) → Row
send_row r sender receivers = record r {
  pending = slice_set r.pending sender receivers;
  senders = noted r.senders sender (not (receivers.mask == 0));
}

-- the copy is no longer under way
abbrev pub settle_row : Row → (sender receiver : ℕ) → Row
settle_row r sender receiver = send_row r sender (without_console (pending_from r sender) receiver)

-- the copy is lost
abbrev pub lose_row : Row → (sender receiver : ℕ) → Row
lose_row r sender receiver = record r { lost = slice_set r.lost sender (with_console (lost_from r sender) receiver) }

-- the console endorses the number: a copy to each honest console is under way
abbrev pub endorse_row : Row → (console : ℕ) → (honest : ConsoleSet) → Row
endorse_row r console honest = send_row (record r { endorsed = with_console r.endorsed console }) console honest
