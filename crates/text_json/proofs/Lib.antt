pub mod Listed
mod ReadBack
