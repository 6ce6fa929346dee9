-- For proofs: The limits of a tree (our own).
use Rattle.std.specs.Prelude.{◌≤◌, ℕ, length}
use Rattle.kc_entries.specs.declared.entries.Entries.{Entries}
use Rattle.kc_tree.specs.EntryViews.{entry_count}

-- the most names that a tree may mention, and the most attributes that its entries may have
abbrev pub most_names : ℕ
most_names = 2147483648

-- the numbers of entries and attributes are within the limit, so that they fit
pub record IsFew (es : Entries) : Type 0 where
  pub entries : entry_count es ≤ most_names
  pub attributes : length es.attributes.items ≤ most_names
