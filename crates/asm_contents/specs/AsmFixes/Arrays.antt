-- The parts of the arrays.
use Rattle.asm_write.specs.declared.part.Part.{Part}
use Rattle.asm_write.specs.declared.part.Part.TheVariants as parts
use Rattle.asm_statement.specs.declared.directive.Array.{Array}
use Rattle.asm_statement.specs.declared.directive.Array.TheVariants as arrays

abbrev pub array_part : Array → Part
array_part arrays.Preinit = parts.PreinitArray
array_part arrays.Init = parts.InitArray
array_part arrays.Fini = parts.FiniArray
