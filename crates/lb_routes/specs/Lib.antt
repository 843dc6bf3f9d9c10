pub mod FrontendRoutesView
pub mod RequestsOf
