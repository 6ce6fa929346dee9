use Rattle.kc_build.proofs.ListingLemmas.{listing-is}
use Rattle.kc_build.proofs.listing.listing_of.Goals as goal

pub returns-clause-listing : goal.returns-clause-listing
returns-clause-listing c = λ log x. listing-is log c.args.names _ x _ _ c.into_symbols.ensures c.modules_symbol-modules.ensures
