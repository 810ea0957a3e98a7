use Rattle.rast_examples.proofs.Viewed.{type_equals_itself, one_is_equal_at_any_numbers, equal_to_depth_one, not_equal_to_depth_two, other_ticks_are_not_equal, ticks_before_it_are_not_equal, plus_and_with_are_not_equal, pays_and_gets_are_not_equal, other_amounts_are_not_equal, other_labels_are_not_equal, fewer_labels_are_not_equal, more_labels_are_not_equal, other_inner_types_are_not_equal, other_branches_are_not_equal, other_first_parts_are_not_equal, other_second_parts_are_not_equal}
use Rattle.rast_examples.proofs.view.equality_law.Goals as goal

pub returns-clause-type_equals_itself : goal.returns-clause-type_equals_itself
returns-clause-type_equals_itself c = type_equals_itself

pub returns-clause-one_is_equal_at_any_numbers : goal.returns-clause-one_is_equal_at_any_numbers
returns-clause-one_is_equal_at_any_numbers c = one_is_equal_at_any_numbers

pub returns-clause-equal_to_depth_one : goal.returns-clause-equal_to_depth_one
returns-clause-equal_to_depth_one c = equal_to_depth_one

pub returns-clause-not_equal_to_depth_two : goal.returns-clause-not_equal_to_depth_two
returns-clause-not_equal_to_depth_two c = not_equal_to_depth_two

pub returns-clause-other_ticks_are_not_equal : goal.returns-clause-other_ticks_are_not_equal
returns-clause-other_ticks_are_not_equal c = other_ticks_are_not_equal

pub returns-clause-ticks_before_it_are_not_equal : goal.returns-clause-ticks_before_it_are_not_equal
returns-clause-ticks_before_it_are_not_equal c = ticks_before_it_are_not_equal

pub returns-clause-plus_and_with_are_not_equal : goal.returns-clause-plus_and_with_are_not_equal
returns-clause-plus_and_with_are_not_equal c = plus_and_with_are_not_equal

pub returns-clause-pays_and_gets_are_not_equal : goal.returns-clause-pays_and_gets_are_not_equal
returns-clause-pays_and_gets_are_not_equal c = pays_and_gets_are_not_equal

pub returns-clause-other_amounts_are_not_equal : goal.returns-clause-other_amounts_are_not_equal
returns-clause-other_amounts_are_not_equal c = other_amounts_are_not_equal

pub returns-clause-other_labels_are_not_equal : goal.returns-clause-other_labels_are_not_equal
returns-clause-other_labels_are_not_equal c = other_labels_are_not_equal

pub returns-clause-fewer_labels_are_not_equal : goal.returns-clause-fewer_labels_are_not_equal
returns-clause-fewer_labels_are_not_equal c = fewer_labels_are_not_equal

pub returns-clause-more_labels_are_not_equal : goal.returns-clause-more_labels_are_not_equal
returns-clause-more_labels_are_not_equal c = more_labels_are_not_equal

pub returns-clause-other_inner_types_are_not_equal : goal.returns-clause-other_inner_types_are_not_equal
returns-clause-other_inner_types_are_not_equal c = other_inner_types_are_not_equal

pub returns-clause-other_branches_are_not_equal : goal.returns-clause-other_branches_are_not_equal
returns-clause-other_branches_are_not_equal c = other_branches_are_not_equal

pub returns-clause-other_first_parts_are_not_equal : goal.returns-clause-other_first_parts_are_not_equal
returns-clause-other_first_parts_are_not_equal c = other_first_parts_are_not_equal

pub returns-clause-other_second_parts_are_not_equal : goal.returns-clause-other_second_parts_are_not_equal
returns-clause-other_second_parts_are_not_equal c = other_second_parts_are_not_equal
