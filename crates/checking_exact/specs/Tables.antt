-- What the rules ask of a file as data.
use Rattle.rules.specs.Schema.{Schema, schema_of}
use Rattle.reading_exact.specs.File.{File, contents_for}

abbrev pub schema_for : File → Schema
schema_for F = schema_of (contents_for F)
