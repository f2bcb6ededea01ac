-- How the counts of a call change.
use Rattle.std.specs.Prelude.{ℕ, ◌+◌, Bool, true, false, not, None}
use Rattle.inf_duty.specs.ClientState.{Counts, first_place, one_if}
use Rattle.inf_duty.specs.Turn.{later_place}

-- an Ask more
abbrev pub with_ask : ℕ → Bool → Counts → Counts
with_ask place begins_round c = record {
  first = first_place c.first place;
  last = c.last;
  attempts = c.attempts + one_if (not c.is_begun);
  rounds = c.rounds + one_if begins_round;
  messages = c.messages + 1;
  is_begun = true;
}

-- a Serve more; the latest is the last
abbrev pub with_serve : ℕ → Counts → Counts
with_serve place c = record c { last = later_place c.last place }

-- no Serve is known any more
abbrev pub without_serves : Counts → Counts
without_serves c = record c { last = None }

-- the attempt is over
abbrev pub at_new_attempt : Counts → Counts
at_new_attempt c = record c { is_begun = false }
