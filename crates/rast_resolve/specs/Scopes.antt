-- What is known of a whole file, and names in order.
pub use Rattle.rast_resolve.specs.declared.known.Counts.{Counts}
pub use Rattle.rast_resolve.specs.declared.known.Known.{Known}
pub use Rattle.rast_resolve.specs.Lists.{Text, Texts, is_among, place_from, place_of, newest_from, newest_of, once_from, at_place, or_else, number_in, walked_name, walked_from, or_walked, variable_of}
