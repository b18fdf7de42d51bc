pub mod FirstNoticeLaws
