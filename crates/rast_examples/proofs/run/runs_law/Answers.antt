use Rattle.rast_examples.proofs.Ran.{no_event_is_a_run, close_is_a_run, work_delay_and_close_is_a_run, other_potential_is_not_a_run, close_that_leaves_main_is_not_a_run, close_at_other_moment_is_not_a_run, close_by_other_process_is_not_a_run, close_twice_is_not_a_run, other_work_is_not_a_run, work_left_out_is_not_a_run, delay_left_out_is_not_a_run, delay_before_its_ticks_is_not_a_run, large_work_is_not_a_run}
use Rattle.rast_examples.proofs.run.runs_law.Goals as goal

pub returns-clause-no_event_is_a_run : goal.returns-clause-no_event_is_a_run
returns-clause-no_event_is_a_run c = no_event_is_a_run

pub returns-clause-close_is_a_run : goal.returns-clause-close_is_a_run
returns-clause-close_is_a_run c = close_is_a_run

pub returns-clause-work_delay_and_close_is_a_run : goal.returns-clause-work_delay_and_close_is_a_run
returns-clause-work_delay_and_close_is_a_run c = work_delay_and_close_is_a_run

pub returns-clause-other_potential_is_not_a_run : goal.returns-clause-other_potential_is_not_a_run
returns-clause-other_potential_is_not_a_run c = other_potential_is_not_a_run

pub returns-clause-close_that_leaves_main_is_not_a_run : goal.returns-clause-close_that_leaves_main_is_not_a_run
returns-clause-close_that_leaves_main_is_not_a_run c = close_that_leaves_main_is_not_a_run

pub returns-clause-close_at_other_moment_is_not_a_run : goal.returns-clause-close_at_other_moment_is_not_a_run
returns-clause-close_at_other_moment_is_not_a_run c = close_at_other_moment_is_not_a_run

pub returns-clause-close_by_other_process_is_not_a_run : goal.returns-clause-close_by_other_process_is_not_a_run
returns-clause-close_by_other_process_is_not_a_run c = close_by_other_process_is_not_a_run

pub returns-clause-close_twice_is_not_a_run : goal.returns-clause-close_twice_is_not_a_run
returns-clause-close_twice_is_not_a_run c = close_twice_is_not_a_run

pub returns-clause-other_work_is_not_a_run : goal.returns-clause-other_work_is_not_a_run
returns-clause-other_work_is_not_a_run c = other_work_is_not_a_run

pub returns-clause-work_left_out_is_not_a_run : goal.returns-clause-work_left_out_is_not_a_run
returns-clause-work_left_out_is_not_a_run c = work_left_out_is_not_a_run

pub returns-clause-delay_left_out_is_not_a_run : goal.returns-clause-delay_left_out_is_not_a_run
returns-clause-delay_left_out_is_not_a_run c = delay_left_out_is_not_a_run

pub returns-clause-delay_before_its_ticks_is_not_a_run : goal.returns-clause-delay_before_its_ticks_is_not_a_run
returns-clause-delay_before_its_ticks_is_not_a_run c = delay_before_its_ticks_is_not_a_run

pub returns-clause-large_work_is_not_a_run : goal.returns-clause-large_work_is_not_a_run
returns-clause-large_work_is_not_a_run c = large_work_is_not_a_run
