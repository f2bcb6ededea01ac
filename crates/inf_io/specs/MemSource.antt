-- A source in memory, as contracts see it, and what each take of it does.
use Rattle.std.specs.Prelude.{◌≡◌, ℕ, ◌==◌, min, List, ◌++◌, length, take, drop, if◌then◌else◌}
use Rattle.inf_io.specs.declared.take.Take.{Take}
use Rattle.inf_io.specs.declared.take.Take.TheVariants as takes
use Rattle.inf_io.specs.Faults.{count_after, is_planned, next_call}

pub record MemSourceState : Type 0 where
  -- the bytes that are still to come
  pub left : List ℕ
  -- a take gives at most so many
  pub piece : ℕ
  -- the numbers of the calls that fail
  pub fails : List ℕ
  -- the calls so far
  pub calls : ℕ
  pub faults : ℕ

-- a take that does not fail takes the least of a piece, the room and the bytes left
abbrev pub take_len : MemSourceState → ℕ → ℕ
take_len s room = min (min s.piece room) (length s.left)

-- taking none is the end
abbrev pub taken : ℕ → Take
taken n = if n == 0 then takes.End else takes.Taken n

-- the answer to a take with so much room
abbrev pub take_answer : MemSourceState → ℕ → Take
take_answer s room = if is_planned s.fails s.calls then takes.Failed else taken (take_len s room)

-- the bytes left after a take with so much room
abbrev pub left_after : MemSourceState → ℕ → List ℕ
left_after s room = if is_planned s.fails s.calls then s.left else drop (take_len s room) s.left

abbrev pub after_take : MemSourceState → ℕ → MemSourceState
after_take s room = record {
  left = left_after s room;
  piece = s.piece;
  fails = s.fails;
  calls = next_call s.calls;
  faults = count_after (is_planned s.fails s.calls) s.faults;
}

-- the bytes taken lie at the front of the buffer, which is otherwise as it was
abbrev pub FillsFront : List ℕ → Take → List ℕ → List ℕ → Type 0
FillsFront left (takes.Taken n) old new = new ≡ take n left ++ drop n old
FillsFront left takes.End old new = new ≡ old
FillsFront left takes.Failed old new = new ≡ old
