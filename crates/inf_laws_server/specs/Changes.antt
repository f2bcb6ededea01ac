-- A change of a server's state, as data.
use Rattle.std.specs.Prelude.{ℕ}
use Rattle.inf_base.specs.declared.caller.CallRef.{CallRef}
use Rattle.inf_base.specs.declared.directory.DirRef.{DirRef}
use Rattle.inf_base.specs.declared.id.Id.{Id}
use Rattle.inf_base.specs.declared.triple.Triple.{Triple}
use Rattle.inf_content.specs.Contents.{dropped_at, made_at, sealed_at, unsealed_at, with_slots_at}
use Rattle.inf_renames.specs.Renames.{forgotten}
use Rattle.inf_server.specs.State.{State, with_contents}
use Rattle.inf_laws_server.specs.Edits.{Edit, edited}

pub data Change : Type 0 where
  none : Change
  -- the slots of a directory change
  slots : DirRef → Edit → Change
  -- an empty content object comes, of this identifier, birth and triple, which this call made
  comes : Id → ℕ → Triple → CallRef → Change
  -- the content object of a directory goes, where the call sealed or made it
  goes : DirRef → CallRef → Change
  -- the call seals a directory
  seals : DirRef → CallRef → Change
  -- the call's seal of it is lifted
  unseals : DirRef → CallRef → Change
  -- the row goes that a directory left where it was made
  forgets : Id → DirRef → Change

abbrev pub changed : Change → State → State
changed none state = state
changed (slots dir edit) state = with_contents (with_slots_at dir (edited edit) state.contents) state
changed (comes id born birth by) state = with_contents (made_at id born birth by state.contents) state
changed (goes dir by) state = with_contents (dropped_at dir by state.contents) state
changed (seals dir by) state = with_contents (sealed_at dir by state.contents) state
changed (unseals dir by) state = with_contents (unsealed_at dir by state.contents) state
changed (forgets parent dir) state = record state { renames = forgotten parent dir state.renames }
