use Rattle.std.proofs.Common.{rules}
use Rattle.rast_types.specs.declared.ty.Ty.{the_lemmas}
use Rattle.rast_types.proofs.Shallow.{choices_room, more_room, element_room}
use Rattle.rast_types.proofs.Puts.{plus_ok, plus_err, with_ok, with_err, named_ok, named_err}
use Rattle.rast_types.proofs.put.+put_type.Goals as goal

pub put_type-returns-in-Ok : goal.put_type-returns-in-Ok
put_type-returns-in-Ok t c = plus_ok _ _ _ _ _ c.in-Plus.is c.as_slice.ensures _ c.in-Ok.ensures

pub put_type-returns-in-Err : goal.put_type-returns-in-Err
put_type-returns-in-Err t c = plus_err _ _ _ _ _ c.in-Plus.is c.as_slice.ensures _ c.in-Err.ensures

pub put_type-returns-in-Ok-put_choices : goal.put_type-returns-in-Ok-put_choices
put_type-returns-in-Ok-put_choices t c = with_ok _ _ _ _ _ c.in-With.is c.as_slice-in-With.ensures _ c.in-Ok-put_choices.ensures

pub put_type-returns-in-Err-put_choices : goal.put_type-returns-in-Err-put_choices
put_type-returns-in-Err-put_choices t c = with_err _ _ _ _ _ c.in-With.is c.as_slice-in-With.ensures _ c.in-Err-put_choices.ensures

pub put_type-put_choices-requires : goal.put_type-put_choices-requires
put_type-put_choices-requires t c = (search (rules, the_lemmas), choices_room _ _ _ _ c.in-Plus.is c.as_slice.ensures c.requires)

pub put_type-put_choices-requires-in-With : goal.put_type-put_choices-requires-in-With
put_type-put_choices-requires-in-With t c = (search (rules, the_lemmas), more_room _ _ _ _ c.in-With.is c.as_slice-in-With.ensures c.requires)

pub put_choices-put_type-requires : goal.put_choices-put_type-requires
put_choices-put_type-requires t c = (search (rules, the_lemmas), element_room _ _ _ c.loop-label-item.result c.loop-label-test.true c.loop-label-item.is c.requires)
