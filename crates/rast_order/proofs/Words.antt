-- The declared types that the laws speak of, under the names that their proofs use.
pub use Rattle.rast_items.specs.declared.link.Link.{Link}
pub use Rattle.rast_items.specs.declared.link.Pid.{Pid}
pub use Rattle.rast_items.specs.declared.link.Side.{Side}
pub use Rattle.rast_items.specs.declared.link.Side.TheVariants.{Client, Provider}
pub use Rattle.rast_items.specs.declared.message.Body.{Body}
pub use Rattle.rast_items.specs.declared.message.Body.TheVariants.{Label, End, Chan, Nat, Assert, Pay}
pub use Rattle.rast_items.specs.declared.message.Msg.{Msg}
pub use Rattle.rast_items.specs.declared.item.Item.{Item}
pub use Rattle.rast_items.specs.declared.item.Item.TheVariants.{Proc as P, Msg as M}
pub use Rattle.rast_items.specs.declared.event.Event.{Event}
pub use Rattle.rast_items.specs.declared.event.Event.TheVariants.{Send, Take, Move, Spawn, Call, Work, Delay}
pub use Rattle.rast_items.specs.Process.{Process as Proc}
