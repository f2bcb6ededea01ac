use Rattle.std.proofs.Common.{length, position, unwrap_or, sym, ap, ◌∙◌}
use Rattle.inf_content.proofs.Listed.{found_or_length}
use Rattle.inf_content.proofs.busy_names.BusyNames.place_of.Goals as goal

pub returns : goal.returns
returns c = rw (← c.self.view_is)
    (c.unwrap_or.ensures ∙ ap (unwrap_or c.place_in.result) (c.len.ensures ∙ sym c.as_slice.ensures.len ∙ ap length c.as_slice.ensures.value)
    ∙ found_or_length _ c.self.inside.names.items c.place_in.result (c.place_in.ensures ∙ ap (position _) c.as_slice.ensures.value))
