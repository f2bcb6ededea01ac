-- A sink in memory, as contracts see it, and what each put to it does.
use Rattle.std.specs.Prelude.{ℕ, ◌-◌, Bool, ◌||◌, nat_le, min, List, ◌++◌, length, take, if◌then◌else◌}
use Rattle.inf_io.specs.declared.give.Give.{Give}
use Rattle.inf_io.specs.declared.give.Give.TheVariants as gives
use Rattle.inf_io.specs.Faults.{count_after, is_planned, next_call}

pub record MemSinkState : Type 0 where
  pub held : List ℕ
  -- a put takes at most so many
  pub piece : ℕ
  -- the sink holds at most so many
  pub room : ℕ
  -- the numbers of the calls that fail
  pub fails : List ℕ
  -- the calls so far
  pub calls : ℕ
  pub faults : ℕ

-- a put fails where it is planned to, and where the sink is full
abbrev pub fails_now : MemSinkState → Bool
fails_now s = is_planned s.fails s.calls || nat_le s.room (length s.held)

-- a put that does not fail takes the least of a piece, the bytes offered and the room left
abbrev pub put_len : MemSinkState → ℕ → ℕ
put_len s offered = min (min s.piece offered) (s.room - length s.held)

-- the answer to a put of so many bytes
abbrev pub put_answer : MemSinkState → ℕ → Give
put_answer s offered = if fails_now s then gives.Failed else gives.Gave (put_len s offered)

-- the bytes held after a put of these
abbrev pub held_after : MemSinkState → List ℕ → List ℕ
held_after s bytes = if fails_now s then s.held else s.held ++ take (put_len s (length bytes)) bytes

abbrev pub after_put : MemSinkState → List ℕ → MemSinkState
after_put s bytes = record {
  held = held_after s bytes;
  piece = s.piece;
  room = s.room;
  fails = s.fails;
  calls = next_call s.calls;
  faults = count_after (fails_now s) s.faults;
}
