pub mod LastChild
