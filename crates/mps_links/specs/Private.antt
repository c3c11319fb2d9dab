-- What no contract of a public function uses.
pub mod Numbered
pub mod Order
pub mod RoleMarks
pub mod Pending
