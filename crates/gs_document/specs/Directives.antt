-- What Turtle's directives leave (25 February 2014, sections 2.4 and 6.3), as for the triples of any language.
pub use Rattle.gs_triples.specs.Directives.{with_prefix, with_base}
