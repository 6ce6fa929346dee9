-- A file without lines sources nothing.
use Rattle.std.proofs.{Common.{List, [], ℕ, ◌≡◌}, lemmas.List.nil_from_length}
use Rattle.kc_language.specs.Lines.{physical_lines, unread_lines}
use Rattle.kc_read.proofs.SourceLines.{at_end, one_list}
use Rattle.kc_entries.specs.PartsOfExpansion.{lines_of}
use Rattle.kc_load.specs.Asking.{AreSources}

pub no_lines_no_sources : (bytes : List ℕ) (names : List (List ℕ)) → AreSources bytes names → lines_of bytes ≡ 0 → names ≡ []
no_lines_no_sources bytes names sources none =
    one_list (unread_lines bytes 1) names [] sources (at_end (unread_lines bytes 1) (nil_from_length (physical_lines bytes) none))
