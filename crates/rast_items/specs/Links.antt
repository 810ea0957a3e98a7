-- Tests on numbers, links and sides.
use Rattle.std.specs.Prelude.{ℕ, ◌+◌, Bool, true, false, ◌&&◌, ◌==◌}
use Rattle.rast_items.specs.declared.link.Link.{Link}
use Rattle.rast_items.specs.declared.link.Pid.{Pid}
use Rattle.rast_items.specs.declared.link.Side.{Side}
use Rattle.rast_items.specs.declared.link.Side.TheVariants.{Client, Provider}

abbrev pub same_pid : Pid → Pid → Bool
same_pid a b = a.0 == b.0

abbrev pub same_link : Link → Link → Bool
same_link a b = same_pid a.session b.session && (a.index == b.index)

abbrev pub same_side : Side → Side → Bool
same_side Client Client = true
same_side Client Provider = false
same_side Provider Client = false
same_side Provider Provider = true

abbrev pub pid_at : ℕ → Pid
pid_at n = record { 0 = n }

abbrev pub link_at : ℕ → ℕ → Link
link_at s i = record { session = pid_at s; index = i }

-- the link one higher in the same session
abbrev pub after_link : Link → Link
after_link l = record l { index = l.index + 1 }
