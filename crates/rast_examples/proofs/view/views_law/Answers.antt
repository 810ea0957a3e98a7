use Rattle.rast_examples.proofs.Viewed.{ticks_before_head_serve, head_serves_ticks_before_it, other_moment_does_not_serve, later_provider_does_not_serve, earlier_provider_does_not_serve, other_ticks_do_not_serve, other_head_does_not_serve, other_inner_type_does_not_serve, time_of_arrival_suits, later_moment_does_not_suit, earlier_moment_does_not_suit, moment_of_view_does_not_suit}
use Rattle.rast_examples.proofs.view.views_law.Goals as goal

pub returns-clause-ticks_before_head_serve : goal.returns-clause-ticks_before_head_serve
returns-clause-ticks_before_head_serve c = ticks_before_head_serve

pub returns-clause-head_serves_ticks_before_it : goal.returns-clause-head_serves_ticks_before_it
returns-clause-head_serves_ticks_before_it c = head_serves_ticks_before_it

pub returns-clause-other_moment_does_not_serve : goal.returns-clause-other_moment_does_not_serve
returns-clause-other_moment_does_not_serve c = other_moment_does_not_serve

pub returns-clause-later_provider_does_not_serve : goal.returns-clause-later_provider_does_not_serve
returns-clause-later_provider_does_not_serve c = later_provider_does_not_serve

pub returns-clause-earlier_provider_does_not_serve : goal.returns-clause-earlier_provider_does_not_serve
returns-clause-earlier_provider_does_not_serve c = earlier_provider_does_not_serve

pub returns-clause-other_ticks_do_not_serve : goal.returns-clause-other_ticks_do_not_serve
returns-clause-other_ticks_do_not_serve c = other_ticks_do_not_serve

pub returns-clause-other_head_does_not_serve : goal.returns-clause-other_head_does_not_serve
returns-clause-other_head_does_not_serve c = other_head_does_not_serve

pub returns-clause-other_inner_type_does_not_serve : goal.returns-clause-other_inner_type_does_not_serve
returns-clause-other_inner_type_does_not_serve c = other_inner_type_does_not_serve

pub returns-clause-time_of_arrival_suits : goal.returns-clause-time_of_arrival_suits
returns-clause-time_of_arrival_suits c = time_of_arrival_suits

pub returns-clause-later_moment_does_not_suit : goal.returns-clause-later_moment_does_not_suit
returns-clause-later_moment_does_not_suit c = later_moment_does_not_suit

pub returns-clause-earlier_moment_does_not_suit : goal.returns-clause-earlier_moment_does_not_suit
returns-clause-earlier_moment_does_not_suit c = earlier_moment_does_not_suit

pub returns-clause-moment_of_view_does_not_suit : goal.returns-clause-moment_of_view_does_not_suit
returns-clause-moment_of_view_does_not_suit c = moment_of_view_does_not_suit
