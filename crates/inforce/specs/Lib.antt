pub mod FirstNotice
