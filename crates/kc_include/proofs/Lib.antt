mod LineLemmas
mod PlaceLemmas
mod PartLemmas
mod RestLemmas
