use Rattle.rast_examples.proofs.Ran.{message_to_client_is_poised, process_that_serves_is_poised, message_to_provider_is_not_poised, process_that_closes_is_not_poised, process_that_waits_is_not_poised, closed_is_idle, serving_is_idle, waiting_is_idle, before_its_close_is_not_idle, halted_is_not_idle, without_a_rule_is_not_idle, closed_is_finished, serving_is_finished, before_its_close_is_not_finished, halted_is_not_finished, waiting_is_not_finished, message_left_to_provider_is_not_finished}
use Rattle.rast_examples.proofs.run.ends_law.Goals as goal

pub returns-clause-message_to_client_is_poised : goal.returns-clause-message_to_client_is_poised
returns-clause-message_to_client_is_poised c = message_to_client_is_poised

pub returns-clause-process_that_serves_is_poised : goal.returns-clause-process_that_serves_is_poised
returns-clause-process_that_serves_is_poised c = process_that_serves_is_poised

pub returns-clause-message_to_provider_is_not_poised : goal.returns-clause-message_to_provider_is_not_poised
returns-clause-message_to_provider_is_not_poised c = message_to_provider_is_not_poised

pub returns-clause-process_that_closes_is_not_poised : goal.returns-clause-process_that_closes_is_not_poised
returns-clause-process_that_closes_is_not_poised c = process_that_closes_is_not_poised

pub returns-clause-process_that_waits_is_not_poised : goal.returns-clause-process_that_waits_is_not_poised
returns-clause-process_that_waits_is_not_poised c = process_that_waits_is_not_poised

pub returns-clause-closed_is_idle : goal.returns-clause-closed_is_idle
returns-clause-closed_is_idle c = closed_is_idle

pub returns-clause-serving_is_idle : goal.returns-clause-serving_is_idle
returns-clause-serving_is_idle c = serving_is_idle

pub returns-clause-waiting_is_idle : goal.returns-clause-waiting_is_idle
returns-clause-waiting_is_idle c = waiting_is_idle

pub returns-clause-before_its_close_is_not_idle : goal.returns-clause-before_its_close_is_not_idle
returns-clause-before_its_close_is_not_idle c = before_its_close_is_not_idle

pub returns-clause-halted_is_not_idle : goal.returns-clause-halted_is_not_idle
returns-clause-halted_is_not_idle c = halted_is_not_idle

pub returns-clause-without_a_rule_is_not_idle : goal.returns-clause-without_a_rule_is_not_idle
returns-clause-without_a_rule_is_not_idle c = without_a_rule_is_not_idle

pub returns-clause-closed_is_finished : goal.returns-clause-closed_is_finished
returns-clause-closed_is_finished c = closed_is_finished

pub returns-clause-serving_is_finished : goal.returns-clause-serving_is_finished
returns-clause-serving_is_finished c = serving_is_finished

pub returns-clause-before_its_close_is_not_finished : goal.returns-clause-before_its_close_is_not_finished
returns-clause-before_its_close_is_not_finished c = before_its_close_is_not_finished

pub returns-clause-halted_is_not_finished : goal.returns-clause-halted_is_not_finished
returns-clause-halted_is_not_finished c = halted_is_not_finished

pub returns-clause-waiting_is_not_finished : goal.returns-clause-waiting_is_not_finished
returns-clause-waiting_is_not_finished c = waiting_is_not_finished

pub returns-clause-message_left_to_provider_is_not_finished : goal.returns-clause-message_left_to_provider_is_not_finished
returns-clause-message_left_to_provider_is_not_finished c = message_left_to_provider_is_not_finished
