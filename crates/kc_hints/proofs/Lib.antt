mod FormLemmas
mod NearLemmas
mod PlaceLemmas
mod RangeLemmas
