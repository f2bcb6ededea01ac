pub mod DirFlow
