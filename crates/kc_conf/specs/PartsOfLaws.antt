-- For proofs: Names for parts of the definitions of Laws.
use Rattle.std.specs.Prelude.{◌≡◌, ◌⊎◌, Bool, ℕ, List, ◌++◌, codes}
use Rattle.kc_language.specs.ConfigFile.{Assigns, Line, Notation, effect, stream_location}
use Rattle.kc_language.specs.Symbols.{SymbolFacts, TreeFacts}
use Rattle.kc_language.specs.Texts.{Solution, has_prompt, known}
use Rattle.kc_conf.specs.PartsOfTexts.{lost_line}
use Rattle.kc_language.specs.Values.{GivenValue, given_of, name}
use Rattle.kc_language.specs.declared.expressions.SymId.{SymId}
use Rattle.kc_conf.specs.Laws.{HoldsLine}

-- The line gives that symbol no value.
abbrev pub LeavesAlone : TreeFacts → Notation → SymId → Line → Type 0
LeavesAlone tree prefix s l = (given : GivenValue) → effect tree prefix l ≡ Assigns s given → ⊥

-- The value of this line is the symbol's value, or it is reported that it is not.
abbrev pub IsKeptOrWarned : Bool → TreeFacts → Solution → List ℕ → Line → SymId → SymbolFacts → GivenValue → Type 0
IsKeptOrWarned is_raw tree solution warned l s f given = (given ≡ given_of (known solution s))
    ⊎ HoldsLine warned (lost_line is_raw (has_prompt f.prompts) (stream_location l) (name tree s) f.symbol_type given (given_of (known solution s)) ++ codes "\n")
