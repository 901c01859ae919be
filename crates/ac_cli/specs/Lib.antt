pub mod Files
pub mod Forms
pub mod InMemory
pub mod Laws
pub mod Program
