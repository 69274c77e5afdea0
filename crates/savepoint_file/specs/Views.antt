-- What the code's values say.
use Rattle.savepoint.specs.SaveReading.{Spelled}
use Rattle.savepoint_file.specs.declared.placed.Spelled.{Spelled as SpelledIs}
use Rattle.savepoint_file.specs.Steps.{spelled_with}

abbrev pub spelled_view : SpelledIs → Spelled
spelled_view spelled = spelled_with spelled.name.now spelled.place spelled.key.now spelled.count
