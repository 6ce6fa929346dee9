-- For proofs: Names for parts of the definitions of Faults.
use Rattle.std.specs.Prelude.{List, [], ℕ, filter}
use Rattle.kc_language.specs.ConfigFile.{Line, lines_from}
use Rattle.kc_language.specs.Symbols.{TreeFacts}
use Rattle.kc_outcome.specs.Outcome.{lines_text}
use Rattle.kc_outcome.specs.declared.outcome.Delivery.{Delivery}
use Rattle.kc_io.specs.Delivery.{NamedText, chosen, delivery, stale}
use Rattle.kc_io.specs.Log.{Event, Journal}
use Rattle.kc_io.specs.declared.delivery.Manner.TheVariants.{InPlace, Replacing}

-- what is done with these texts, by how they are delivered
abbrev pub delivered_by : Delivery → List NamedText → Journal → List Event
delivered_by Delivery.Write texts journal = delivery InPlace texts
delivered_by Delivery.Replace texts journal = delivery Replacing (chosen Replacing texts journal)
delivered_by Delivery.Check texts journal = []

-- those that are compared, and differ from what their files hold
abbrev pub stale_by : Delivery → List NamedText → Journal → List NamedText
stale_by Delivery.Check texts journal = stale texts journal
stale_by _ texts journal = []

-- the warnings of the tree, reported before anything is read; or nothing, if they were reported before other configurations
abbrev pub said_of_tree : TreeFacts → List ℕ
said_of_tree tree = lines_text tree.warnings

abbrev pub nothing_said : TreeFacts → List ℕ
nothing_said tree = []

-- the complete lines in these first bytes of an input file
abbrev pub ended_lines : List ℕ → List ℕ → List Line
ended_lines name bytes = filter (λ l. l.ended) (lines_from name 1 bytes)
