pub mod Facts
pub mod Near
pub mod RangeParts
pub mod FormView
pub mod Forms
