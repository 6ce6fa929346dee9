-- Trusted: The meaning of the name of an included file in the code.
use Rattle.kc_include.specs.{Included.{Angled, Name, Quoted}, declared.line.IncludedName.IncludedName}
use Rattle.kc_include.specs.declared.line.IncludedName.TheVariants as code

abbrev pub name_of : IncludedName → Name
name_of (code.Angled name) = Angled name.now
name_of (code.Quoted name) = Quoted name.now
