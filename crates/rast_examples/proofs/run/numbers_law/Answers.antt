use Rattle.rast_examples.proofs.Ran.{main_alone_is_apart, message_alone_is_apart, one_number_twice_is_not_apart, number_never_made_is_not_apart}
use Rattle.rast_examples.proofs.run.numbers_law.Goals as goal

pub returns-clause-main_alone_is_apart : goal.returns-clause-main_alone_is_apart
returns-clause-main_alone_is_apart c = main_alone_is_apart

pub returns-clause-message_alone_is_apart : goal.returns-clause-message_alone_is_apart
returns-clause-message_alone_is_apart c = message_alone_is_apart

pub returns-clause-one_number_twice_is_not_apart : goal.returns-clause-one_number_twice_is_not_apart
returns-clause-one_number_twice_is_not_apart c = one_number_twice_is_not_apart

pub returns-clause-number_never_made_is_not_apart : goal.returns-clause-number_never_made_is_not_apart
returns-clause-number_never_made_is_not_apart c = number_never_made_is_not_apart
