-- The places of a tree stay its places.
use Rattle.std.proofs.Common.{◌≡◌, ℕ, Some, ◌∙◌}
use Rattle.std.specs.Prelude.{slice_set}
use Rattle.std.proofs.lemmas.List.{length-set}
use Rattle.kc_language.specs.declared.expressions.SymId.{SymId}
use Rattle.kc_language.specs.Symbols.{TreeFacts}
use Rattle.kc_language.specs.Values.{GivenValue}
use Rattle.kc_language.specs.ConfigFile.{Places, ArePlacesOf}

pub set_stays : (tree : TreeFacts) (old new : Places) (i : ℕ) (g : GivenValue) → ArePlacesOf tree old → new ≡ record old { symbols = slice_set old.symbols i (Some g) } → ArePlacesOf tree new
set_stays tree old new i g fits e = rw e (record { symbols = length-set old.symbols i (Some g) ∙ fits.symbols; choices = fits.choices })

pub select_stays : (tree : TreeFacts) (old new : Places) (i : ℕ) (m : SymId) → ArePlacesOf tree old → new ≡ record old { choices = slice_set old.choices i (Some m) } → ArePlacesOf tree new
select_stays tree old new i m fits e = rw e (record { symbols = fits.symbols; choices = length-set old.choices i (Some m) ∙ fits.choices })
