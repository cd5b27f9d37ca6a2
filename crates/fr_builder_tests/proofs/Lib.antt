pub mod OneTokenItems
